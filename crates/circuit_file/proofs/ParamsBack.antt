-- Parameter lines that are read are those of the parameters, which keep their limits; and the other way round.
use Rattle.std.proofs.Common.{◌≡◌, ℕ, Bool, true, false, cond, ◌&&◌, Option, Ok, Err, ℤ, pos, negsuc, int_le, ap, sym, refl, ◌∙◌, subst, arith}
use Rattle.std.specs.Prelude.{Some, None, Result, IfOk, IsTrue, unsigned_abs}
use Rattle.std.proofs.lemmas.Bool.{and_parts, le-leb}
use Rattle.refusals.specs.declared.refusal.Refusal.{Refusal}
use Rattle.refusals.specs.Reading.{◌>>=◌, Gives}
use Rattle.refusals.specs.Steps.{one_value, no_value, value_of_step}
use Rattle.circuit_lines.specs.declared.head.GlweNumbers.{GlweNumbers}
use Rattle.circuit_lines.specs.declared.head.LweNumbers.{LweNumbers}
use Rattle.circuit_lines.specs.declared.head.GadgetNumbers.{GadgetNumbers}
use Rattle.circuit_lines.specs.declared.head.Head.{Head}
use Rattle.fhe_params.specs.declared.params.GlweChoice.{GlweChoice}
use Rattle.fhe_params.specs.declared.params.LweChoice.{LweChoice}
use Rattle.fhe_params.specs.declared.params.Gadget.{Gadget}
use Rattle.fhe_params.specs.declared.params.Params.{Params}
use Rattle.fhe_params.specs.Params.{is_glwe, is_lwe, is_gadget, IsGlwe, IsLwe, IsGadget, IsParams}
use Rattle.fhe_params.specs.Laws.{LimitLaws}
use Rattle.circuit_file.specs.declared.fault.CircuitFault.{CircuitFault}
use Rattle.circuit_file.specs.Params.{is_natural, glwe_choice, is_glwe_line, lwe_choice, is_lwe_line, gadget, is_gadget_line, on_line, params_of}
use Rattle.circuit_file.proofs.Limits.{both}
use Rattle.circuit_file.specs.Text.{glwe_numbers, lwe_numbers, gadget_numbers, head_of}

-- ---- what is read

on_line_held : {A : Type 0} (line : ℕ) (test : Bool) (x y : A) → on_line line (cond test (Some x) None) ≡ Ok y → (test ≡ true) × (x ≡ y)
on_line_held line true x y e = (refl, one_value x (Ok y) e)
on_line_held line false x y e = absurd (no_value _ (Ok y) e)

pub natural_back : (z : ℤ) → is_natural z ≡ true → pos (unsigned_abs z) ≡ z
natural_back (pos n) e = refl
natural_back (negsuc n) e = absurd cc

glwe_back : (L : LimitLaws) (g : GlweNumbers) → is_glwe_line g ≡ true → (glwe_numbers (glwe_choice g) ≡ g) × IsGlwe (glwe_choice g)
glwe_back L g e =
    let a = and_parts ((is_natural g.k && is_natural g.log_n) && (is_natural g.ones && is_natural g.error)) (is_glwe (glwe_choice g)) e in
    let b = and_parts (is_natural g.k && is_natural g.log_n) (is_natural g.ones && is_natural g.error) a.0 in
    let c = and_parts (is_natural g.k) (is_natural g.log_n) b.0 in
    let d = and_parts (is_natural g.ones) (is_natural g.error) b.1 in
    (rw (natural_back g.k c.0, natural_back g.log_n c.1, natural_back g.ones d.0, natural_back g.error d.1) refl, (L.glwe (glwe_choice g)).0 a.1)

lwe_back : (L : LimitLaws) (l : LweNumbers) → is_lwe_line l ≡ true → (lwe_numbers (lwe_choice l) ≡ l) × IsLwe (lwe_choice l)
lwe_back L l e =
    let a = and_parts (is_natural l.n && (is_natural l.ones && is_natural l.error)) (is_lwe (lwe_choice l)) e in
    let b = and_parts (is_natural l.n) (is_natural l.ones && is_natural l.error) a.0 in
    let c = and_parts (is_natural l.ones) (is_natural l.error) b.1 in
    (rw (natural_back l.n b.0, natural_back l.ones c.0, natural_back l.error c.1) refl, (L.lwe (lwe_choice l)).0 a.1)

gadget_back : (L : LimitLaws) (g : GadgetNumbers) → is_gadget_line g ≡ true → (gadget_numbers (gadget g) ≡ g) × IsGadget (gadget g)
gadget_back L g e =
    let a = and_parts (is_natural g.base && is_natural g.level) (is_gadget (gadget g)) e in
    let b = and_parts (is_natural g.base) (is_natural g.level) a.0 in
    (rw (natural_back g.base b.0, natural_back g.level b.1) refl, (L.gadget (gadget g)).0 a.1)

abbrev params_made : GlweChoice → LweChoice → Gadget → Gadget → Params
params_made glwe lwe boot switch = record { glwe = glwe; lwe = lwe; boot = boot; switch = switch }

made_same : {g g2 : GlweChoice} {l l2 : LweChoice} {b b2 s s2 : Gadget} → g ≡ g2 → l ≡ l2 → b ≡ b2 → s ≡ s2 → params_made g l b s ≡ params_made g2 l2 b2 s2
made_same first second third fourth = rw (first, second, third, fourth) refl

abbrev glwe_read : GlweNumbers → Option GlweChoice
glwe_read g = cond (is_glwe_line g) (Some (glwe_choice g)) None

abbrev lwe_read : LweNumbers → Option LweChoice
lwe_read l = cond (is_lwe_line l) (Some (lwe_choice l)) None

abbrev gadget_read : GadgetNumbers → Option Gadget
gadget_read g = cond (is_gadget_line g) (Some (gadget g)) None

-- the parameters that are read: each line held its limits
pub record AreRead (h : Head) (p : Params) : Type 0 where
  pub glwe : is_glwe_line h.glwe ≡ true
  pub lwe : is_lwe_line h.lwe ≡ true
  pub boot : is_gadget_line h.boot ≡ true
  pub switch : is_gadget_line h.switch ≡ true
  pub same : params_made (glwe_choice h.glwe) (lwe_choice h.lwe) (gadget h.boot) (gadget h.switch) ≡ p

are_read : (h : Head) (p : Params) → params_of h ≡ Ok p → AreRead h p
unfolding params_of
are_read h p e =
    let glwe = value_of_step (on_line 3 (glwe_read h.glwe)) (λ glwe. on_line 4 (lwe_read h.lwe) >>= λ lwe. on_line 5 (gadget_read h.boot) >>= λ boot. on_line 6 (gadget_read h.switch) >>= λ switch. Ok (params_made glwe lwe boot switch)) p e in
    let lwe = value_of_step (on_line 4 (lwe_read h.lwe)) (λ lwe. on_line 5 (gadget_read h.boot) >>= λ boot. on_line 6 (gadget_read h.switch) >>= λ switch. Ok (params_made glwe.0 lwe boot switch)) p glwe.2 in
    let boot = value_of_step (on_line 5 (gadget_read h.boot)) (λ boot. on_line 6 (gadget_read h.switch) >>= λ switch. Ok (params_made glwe.0 lwe.0 boot switch)) p lwe.2 in
    let switch = value_of_step (on_line 6 (gadget_read h.switch)) (λ switch. Ok (params_made glwe.0 lwe.0 boot.0 switch)) p boot.2 in
    let a = on_line_held 3 (is_glwe_line h.glwe) (glwe_choice h.glwe) glwe.0 glwe.1 in
    let b = on_line_held 4 (is_lwe_line h.lwe) (lwe_choice h.lwe) lwe.0 lwe.1 in
    let c = on_line_held 5 (is_gadget_line h.boot) (gadget h.boot) boot.0 boot.1 in
    let d = on_line_held 6 (is_gadget_line h.switch) (gadget h.switch) switch.0 switch.1 in
    record {
      glwe = a.0;
      lwe = b.0;
      boot = c.0;
      switch = d.0;
      same = made_same a.1 b.1 c.1 d.1 ∙ one_value (params_made glwe.0 lwe.0 boot.0 switch.0) (Ok p) switch.2;
    }

pub params_kept : (L : LimitLaws) (h : Head) (p : Params) → params_of h ≡ Ok p → IsParams p
params_kept L h p e =
    let r = are_read h p e in
    subst IsParams r.same (record { glwe = (glwe_back L h.glwe r.glwe).1; lwe = (lwe_back L h.lwe r.lwe).1; boot = (gadget_back L h.boot r.boot).1; switch = (gadget_back L h.switch r.switch).1 })

pub head_back : (L : LimitLaws) (h : Head) (p : Params) → params_of h ≡ Ok p → is_natural h.width ≡ true → head_of (unsigned_abs h.width) p ≡ h
head_back L h p e natural =
    let r = are_read h p e in
    ap (λ q. head_of (unsigned_abs h.width) q) (sym r.same) ∙ rw (natural_back h.width natural, (glwe_back L h.glwe r.glwe).0, (lwe_back L h.lwe r.lwe).0, (gadget_back L h.boot r.boot).0, (gadget_back L h.switch r.switch).0) refl

-- ---- what is spelled

some_line : {A : Type 0} (line : ℕ) (test : Bool) (x : A) → test ≡ true → on_line line (cond test (Some x) None) ≡ Ok x
some_line line test x e = rw e refl

pub natural_number : (n : ℕ) → is_natural (pos n) ≡ true
natural_number n = le-leb 0 n (omega arith)

pub params_again : (L : LimitLaws) (width : ℕ) (p : Params) → IsParams p → params_of (head_of width p) ≡ Ok p
unfolding params_of
params_again L width p is =
    let glwe : is_glwe_line (glwe_numbers p.glwe) ≡ true = both _ _ (both _ _ (both _ _ (natural_number p.glwe.k) (natural_number p.glwe.log_n)) (both _ _ (natural_number p.glwe.ones) (natural_number p.glwe.error))) ((L.glwe p.glwe).1 is.glwe) in
    let lwe : is_lwe_line (lwe_numbers p.lwe) ≡ true = both _ _ (both _ _ (natural_number p.lwe.n) (both _ _ (natural_number p.lwe.ones) (natural_number p.lwe.error))) ((L.lwe p.lwe).1 is.lwe) in
    let boot : is_gadget_line (gadget_numbers p.boot) ≡ true = both _ _ (both _ _ (natural_number p.boot.base) (natural_number p.boot.level)) ((L.gadget p.boot).1 is.boot) in
    let switch : is_gadget_line (gadget_numbers p.switch) ≡ true = both _ _ (both _ _ (natural_number p.switch.base) (natural_number p.switch.level)) ((L.gadget p.switch).1 is.switch) in
    rw (some_line 3 (is_glwe_line (glwe_numbers p.glwe)) p.glwe glwe, some_line 4 (is_lwe_line (lwe_numbers p.lwe)) p.lwe lwe, some_line 5 (is_gadget_line (gadget_numbers p.boot)) p.boot boot, some_line 6 (is_gadget_line (gadget_numbers p.switch)) p.switch switch) refl

-- ---- parameters that are given

pub given_kept : (L : LimitLaws) (h : Head) (answer : Result Params (Refusal CircuitFault)) → Gives (λ x. x) answer (params_of h) → IfOk answer IsParams
given_kept L h (Ok p) gives = params_kept L h p gives
given_kept L h (Err refusal) gives = tt
