-- The lines before the nodes: what is read is spelled so, and what is spelled is read again.
use Rattle.std.proofs.Common.{◌≡◌, ℕ, ℤ, List, [], ◌∷◌, ◌++◌, Ok, sym, ap, refl, ◌∙◌, append_assoc}
use Rattle.std.specs.Prelude.{codes, slice_index}
use Rattle.std.specs.Char.{is_ascii_digit}
use Rattle.std.specs.Fmt.{signed_decimal}
use Rattle.circuit_lines.specs.declared.head.GlweNumbers.{GlweNumbers}
use Rattle.circuit_lines.specs.declared.head.LweNumbers.{LweNumbers}
use Rattle.circuit_lines.specs.declared.head.GadgetNumbers.{GadgetNumbers}
use Rattle.circuit_lines.specs.declared.head.Head.{Head}
use Rattle.refusals.specs.Reading.{◌>>=◌}
use Rattle.refusals.specs.Steps.{value_of_step}
use Rattle.circuit_lines.specs.Numbers.{Read, IsShort, literal_at, field_at}
use Rattle.circuit_lines.specs.Lines.{line_feed, field, last_field, glwe_line, lwe_line, gadget_line, params_lines, head_text, IsShortHead}
use Rattle.circuit_lines.specs.Reading.{last_field_at, width_at, glwe_at, lwe_at, gadget_at, head_at}
use Rattle.circuit_lines.proofs.NumberTexts.{at_given, words_taken, words_again, IsField, field_taken, field_again}

-- what a reader of the last field of a line takes
pub record IsLastField (words bytes : List ℕ) (x : ℤ × List ℕ) : Type 0 where
  pub parts : bytes ≡ last_field words x.0 ++ x.1
  pub short : IsShort x.0

join_last : (bytes words n end r1 rest : List ℕ) → bytes ≡ (words ++ n) ++ r1 → r1 ≡ end ++ rest → bytes ≡ (words ++ (n ++ end)) ++ rest
join_last bytes words n end r1 rest first second = first ∙ ap (λ r. (words ++ n) ++ r) second ∙ simp append_assoc

regroup_last : (words n end rest : List ℕ) → (words ++ (n ++ end)) ++ rest ≡ (words ++ n) ++ (end ++ rest)
regroup_last words n end rest = simp append_assoc

pub last_field_taken : (line : ℕ) (words bytes : List ℕ) (x : ℤ × List ℕ) → last_field_at line words bytes ≡ Ok x → IsLastField words bytes x
unfolding last_field_at
last_field_taken line words bytes x e =
    let number = value_of_step (field_at line words bytes) (λ n. literal_at line line_feed n.1 >>= λ rest. Ok (n.0, rest)) x e in
    let rest = value_of_step (literal_at line line_feed number.0.1) (λ rest. Ok (number.0.0, rest)) x number.2 in
    let t = field_taken line words bytes number.0 number.1 in
    let whole = join_last bytes words (signed_decimal number.0.0) line_feed number.0.1 rest.0 t.parts (words_taken line line_feed number.0.1 rest.0 rest.1) in
    at_given (IsLastField words bytes) (number.0.0, rest.0) x rest.2 (record { parts = whole; short = t.short })

pub last_field_again : (line : ℕ) (words : List ℕ) (z : ℤ) (rest : List ℕ) → IsShort z → last_field_at line words (last_field words z ++ rest) ≡ Ok (z, rest)
unfolding last_field_at
last_field_again line words z rest small =
    ap (last_field_at line words) (regroup_last words (signed_decimal z) line_feed rest)
    ∙ rw (field_again line words z (line_feed ++ rest) small refl, words_again line line_feed rest) refl

-- ---- the parameter lines

-- two fields, three and four
pub join_two : (bytes a b r1 rest : List ℕ) → bytes ≡ a ++ r1 → r1 ≡ b ++ rest → bytes ≡ (a ++ b) ++ rest
join_two bytes a b r1 rest first second = first ∙ ap (λ r. a ++ r) second ∙ sym (append_assoc a b rest)

pub join_three : (bytes a b c r1 r2 rest : List ℕ) → bytes ≡ a ++ r1 → r1 ≡ b ++ r2 → r2 ≡ c ++ rest → bytes ≡ (a ++ (b ++ c)) ++ rest
join_three bytes a b c r1 r2 rest first second third = join_two bytes a (b ++ c) r1 rest first (join_two r1 b c r2 rest second third)

pub join_four : (bytes a b c d r1 r2 r3 rest : List ℕ) → bytes ≡ a ++ r1 → r1 ≡ b ++ r2 → r2 ≡ c ++ r3 → r3 ≡ d ++ rest → bytes ≡ (a ++ (b ++ (c ++ d))) ++ rest
join_four bytes a b c d r1 r2 r3 rest first second third fourth = join_two bytes a (b ++ (c ++ d)) r1 rest first (join_three r1 b c d r2 r3 rest second third fourth)

pub regroup_two : (a b rest : List ℕ) → (a ++ b) ++ rest ≡ a ++ (b ++ rest)
regroup_two a b rest = append_assoc a b rest

pub regroup_three : (a b c rest : List ℕ) → (a ++ (b ++ c)) ++ rest ≡ a ++ (b ++ (c ++ rest))
regroup_three a b c rest = simp append_assoc

pub regroup_four : (a b c d rest : List ℕ) → (a ++ (b ++ (c ++ d))) ++ rest ≡ a ++ (b ++ (c ++ (d ++ rest)))
regroup_four a b c d rest = simp append_assoc

-- the numbers of a parameter line have at most so many digits
pub record IsShortGlwe (g : GlweNumbers) : Type 0 where
  pub k : IsShort g.k
  pub log_n : IsShort g.log_n
  pub ones : IsShort g.ones
  pub error : IsShort g.error

pub record IsShortLwe (l : LweNumbers) : Type 0 where
  pub n : IsShort l.n
  pub ones : IsShort l.ones
  pub error : IsShort l.error

pub record IsShortGadget (g : GadgetNumbers) : Type 0 where
  pub base : IsShort g.base
  pub level : IsShort g.level

abbrev made_glwe : ℤ → ℤ → ℤ → ℤ × List ℕ → GlweNumbers × List ℕ
made_glwe k log_n ones error = (record { k = k; log_n = log_n; ones = ones; error = error.0 }, error.1)

glwe_taken : (bytes : List ℕ) (x : GlweNumbers × List ℕ) → glwe_at bytes ≡ Ok x → (bytes ≡ glwe_line x.0 ++ x.1) × IsShortGlwe x.0
unfolding glwe_at
glwe_taken bytes x e =
    let k = value_of_step (field_at 3 (codes "glwe ") bytes) (λ k. field_at 3 (codes " ") k.1 >>= λ log_n. field_at 3 (codes " ") log_n.1 >>= λ ones. last_field_at 3 (codes " ") ones.1 >>= λ error. Ok (made_glwe k.0 log_n.0 ones.0 error)) x e in
    let log_n = value_of_step (field_at 3 (codes " ") k.0.1) (λ log_n. field_at 3 (codes " ") log_n.1 >>= λ ones. last_field_at 3 (codes " ") ones.1 >>= λ error. Ok (made_glwe k.0.0 log_n.0 ones.0 error)) x k.2 in
    let ones = value_of_step (field_at 3 (codes " ") log_n.0.1) (λ ones. last_field_at 3 (codes " ") ones.1 >>= λ error. Ok (made_glwe k.0.0 log_n.0.0 ones.0 error)) x log_n.2 in
    let error = value_of_step (last_field_at 3 (codes " ") ones.0.1) (λ error. Ok (made_glwe k.0.0 log_n.0.0 ones.0.0 error)) x ones.2 in
    let t1 = field_taken 3 (codes "glwe ") bytes k.0 k.1 in
    let t2 = field_taken 3 (codes " ") k.0.1 log_n.0 log_n.1 in
    let t3 = field_taken 3 (codes " ") log_n.0.1 ones.0 ones.1 in
    let t4 = last_field_taken 3 (codes " ") ones.0.1 error.0 error.1 in
    let made = made_glwe k.0.0 log_n.0.0 ones.0.0 error.0 in
    let whole : bytes ≡ glwe_line made.0 ++ made.1 = join_four bytes (field (codes "glwe ") k.0.0) (field (codes " ") log_n.0.0) (field (codes " ") ones.0.0) (last_field (codes " ") error.0.0) k.0.1 log_n.0.1 ones.0.1 error.0.1 t1.parts t2.parts t3.parts t4.parts in
    at_given (λ y. (bytes ≡ glwe_line y.0 ++ y.1) × IsShortGlwe y.0) made x error.2 (whole, record { k = t1.short; log_n = t2.short; ones = t3.short; error = t4.short })

glwe_again : (g : GlweNumbers) (rest : List ℕ) → IsShortGlwe g → glwe_at (glwe_line g ++ rest) ≡ Ok (g, rest)
unfolding glwe_at
glwe_again g rest is =
    let error = last_field (codes " ") g.error ++ rest in
    let ones = field (codes " ") g.ones ++ error in
    let log_n = field (codes " ") g.log_n ++ ones in
    ap glwe_at (regroup_four (field (codes "glwe ") g.k) (field (codes " ") g.log_n) (field (codes " ") g.ones) (last_field (codes " ") g.error) rest)
    ∙ rw (field_again 3 (codes "glwe ") g.k log_n is.k refl, field_again 3 (codes " ") g.log_n ones is.log_n refl, field_again 3 (codes " ") g.ones error is.ones refl, last_field_again 3 (codes " ") g.error rest is.error) refl

abbrev made_lwe : ℤ → ℤ → ℤ × List ℕ → LweNumbers × List ℕ
made_lwe n ones error = (record { n = n; ones = ones; error = error.0 }, error.1)

lwe_taken : (bytes : List ℕ) (x : LweNumbers × List ℕ) → lwe_at bytes ≡ Ok x → (bytes ≡ lwe_line x.0 ++ x.1) × IsShortLwe x.0
unfolding lwe_at
lwe_taken bytes x e =
    let n = value_of_step (field_at 4 (codes "lwe ") bytes) (λ n. field_at 4 (codes " ") n.1 >>= λ ones. last_field_at 4 (codes " ") ones.1 >>= λ error. Ok (made_lwe n.0 ones.0 error)) x e in
    let ones = value_of_step (field_at 4 (codes " ") n.0.1) (λ ones. last_field_at 4 (codes " ") ones.1 >>= λ error. Ok (made_lwe n.0.0 ones.0 error)) x n.2 in
    let error = value_of_step (last_field_at 4 (codes " ") ones.0.1) (λ error. Ok (made_lwe n.0.0 ones.0.0 error)) x ones.2 in
    let t1 = field_taken 4 (codes "lwe ") bytes n.0 n.1 in
    let t2 = field_taken 4 (codes " ") n.0.1 ones.0 ones.1 in
    let t3 = last_field_taken 4 (codes " ") ones.0.1 error.0 error.1 in
    let made = made_lwe n.0.0 ones.0.0 error.0 in
    let whole : bytes ≡ lwe_line made.0 ++ made.1 = join_three bytes (field (codes "lwe ") n.0.0) (field (codes " ") ones.0.0) (last_field (codes " ") error.0.0) n.0.1 ones.0.1 error.0.1 t1.parts t2.parts t3.parts in
    at_given (λ y. (bytes ≡ lwe_line y.0 ++ y.1) × IsShortLwe y.0) made x error.2 (whole, record { n = t1.short; ones = t2.short; error = t3.short })

lwe_again : (l : LweNumbers) (rest : List ℕ) → IsShortLwe l → lwe_at (lwe_line l ++ rest) ≡ Ok (l, rest)
unfolding lwe_at
lwe_again l rest is =
    let error = last_field (codes " ") l.error ++ rest in
    let ones = field (codes " ") l.ones ++ error in
    ap lwe_at (regroup_three (field (codes "lwe ") l.n) (field (codes " ") l.ones) (last_field (codes " ") l.error) rest)
    ∙ rw (field_again 4 (codes "lwe ") l.n ones is.n refl, field_again 4 (codes " ") l.ones error is.ones refl, last_field_again 4 (codes " ") l.error rest is.error) refl

gadget_taken : (line : ℕ) (name bytes : List ℕ) (x : GadgetNumbers × List ℕ) → gadget_at line name bytes ≡ Ok x → (bytes ≡ gadget_line name x.0 ++ x.1) × IsShortGadget x.0
unfolding gadget_at
gadget_taken line name bytes x e =
    let base = value_of_step (field_at line name bytes) (λ base. last_field_at line (codes " ") base.1 >>= λ level. Ok (record { base = base.0; level = level.0 }, level.1)) x e in
    let level = value_of_step (last_field_at line (codes " ") base.0.1) (λ level. Ok (record { base = base.0.0; level = level.0 }, level.1)) x base.2 in
    let t1 = field_taken line name bytes base.0 base.1 in
    let t2 = last_field_taken line (codes " ") base.0.1 level.0 level.1 in
    let made : GadgetNumbers × List ℕ = (record { base = base.0.0; level = level.0.0 }, level.0.1) in
    let whole : bytes ≡ gadget_line name made.0 ++ made.1 = join_two bytes (field name base.0.0) (last_field (codes " ") level.0.0) base.0.1 level.0.1 t1.parts t2.parts in
    at_given (λ y. (bytes ≡ gadget_line name y.0 ++ y.1) × IsShortGadget y.0) made x level.2 (whole, record { base = t1.short; level = t2.short })

gadget_again : (line : ℕ) (name : List ℕ) (g : GadgetNumbers) (rest : List ℕ) → IsShortGadget g → gadget_at line name (gadget_line name g ++ rest) ≡ Ok (g, rest)
unfolding gadget_at
gadget_again line name g rest is =
    ap (gadget_at line name) (regroup_two (field name g.base) (last_field (codes " ") g.level) rest)
    ∙ rw (field_again line name g.base (last_field (codes " ") g.level ++ rest) is.base refl, last_field_again line (codes " ") g.level rest is.level) refl

-- ---- all six lines

abbrev title : List ℕ
title = codes "fhec circuit 1" ++ line_feed

width_taken : (bytes : List ℕ) (x : ℤ × List ℕ) → width_at bytes ≡ Ok x → (bytes ≡ title ++ (last_field (codes "width ") x.0 ++ x.1)) × IsShort x.0
unfolding width_at
width_taken bytes x e =
    let rest = value_of_step (literal_at 1 title bytes) (last_field_at 2 (codes "width ")) x e in
    let t = last_field_taken 2 (codes "width ") rest.0 x rest.2 in
    (words_taken 1 title bytes rest.0 rest.1 ∙ ap (λ r. title ++ r) t.parts, t.short)

width_again : (width : ℤ) (rest : List ℕ) → IsShort width → width_at (title ++ (last_field (codes "width ") width ++ rest)) ≡ Ok (width, rest)
unfolding width_at
width_again width rest is = rw (words_again 1 title (last_field (codes "width ") width ++ rest)) (last_field_again 2 (codes "width ") width rest is)

regroup_lines : (a b c d rest : List ℕ) → (a ++ (b ++ (c ++ d))) ++ rest ≡ a ++ (b ++ (c ++ (d ++ rest)))
regroup_lines a b c d rest = simp append_assoc

join_head : (bytes a w c d e f r1 r2 r3 r4 rest : List ℕ) → bytes ≡ a ++ (w ++ r1) → r1 ≡ c ++ r2 → r2 ≡ d ++ r3 → r3 ≡ e ++ r4 → r4 ≡ f ++ rest → bytes ≡ (a ++ (w ++ (c ++ (d ++ (e ++ f))))) ++ rest
join_head bytes a w c d e f r1 r2 r3 r4 rest first second third fourth fifth =
    first ∙ ap (λ r. a ++ (w ++ r)) (join_four r1 c d e f r2 r3 r4 rest second third fourth fifth) ∙ simp append_assoc

regroup_head : (a w p rest : List ℕ) → (a ++ (w ++ p)) ++ rest ≡ a ++ (w ++ (p ++ rest))
regroup_head a w p rest = simp append_assoc

abbrev made_head : ℤ → GlweNumbers → LweNumbers → GadgetNumbers → GadgetNumbers × List ℕ → Head × List ℕ
made_head width glwe lwe boot switch = (record { width = width; glwe = glwe; lwe = lwe; boot = boot; switch = switch.0 }, switch.1)

pub head_taken : (bytes : List ℕ) (x : Head × List ℕ) → head_at bytes ≡ Ok x → (bytes ≡ head_text x.0 ++ x.1) × IsShortHead x.0
unfolding head_at
head_taken bytes x e =
    let width = value_of_step (width_at bytes) (λ width. glwe_at width.1 >>= λ glwe. lwe_at glwe.1 >>= λ lwe. gadget_at 5 (codes "boot ") lwe.1 >>= λ boot. gadget_at 6 (codes "switch ") boot.1 >>= λ switch. Ok (made_head width.0 glwe.0 lwe.0 boot.0 switch)) x e in
    let glwe = value_of_step (glwe_at width.0.1) (λ glwe. lwe_at glwe.1 >>= λ lwe. gadget_at 5 (codes "boot ") lwe.1 >>= λ boot. gadget_at 6 (codes "switch ") boot.1 >>= λ switch. Ok (made_head width.0.0 glwe.0 lwe.0 boot.0 switch)) x width.2 in
    let lwe = value_of_step (lwe_at glwe.0.1) (λ lwe. gadget_at 5 (codes "boot ") lwe.1 >>= λ boot. gadget_at 6 (codes "switch ") boot.1 >>= λ switch. Ok (made_head width.0.0 glwe.0.0 lwe.0 boot.0 switch)) x glwe.2 in
    let boot = value_of_step (gadget_at 5 (codes "boot ") lwe.0.1) (λ boot. gadget_at 6 (codes "switch ") boot.1 >>= λ switch. Ok (made_head width.0.0 glwe.0.0 lwe.0.0 boot.0 switch)) x lwe.2 in
    let switch = value_of_step (gadget_at 6 (codes "switch ") boot.0.1) (λ switch. Ok (made_head width.0.0 glwe.0.0 lwe.0.0 boot.0.0 switch)) x boot.2 in
    let t1 = width_taken bytes width.0 width.1 in
    let t2 = glwe_taken width.0.1 glwe.0 glwe.1 in
    let t3 = lwe_taken glwe.0.1 lwe.0 lwe.1 in
    let t4 = gadget_taken 5 (codes "boot ") lwe.0.1 boot.0 boot.1 in
    let t5 = gadget_taken 6 (codes "switch ") boot.0.1 switch.0 switch.1 in
    let made = made_head width.0.0 glwe.0.0 lwe.0.0 boot.0.0 switch.0 in
    let whole : bytes ≡ head_text made.0 ++ made.1 = join_head bytes title (last_field (codes "width ") width.0.0) (glwe_line glwe.0.0) (lwe_line lwe.0.0) (gadget_line (codes "boot ") boot.0.0) (gadget_line (codes "switch ") switch.0.0) width.0.1 glwe.0.1 lwe.0.1 boot.0.1 switch.0.1 t1.0 t2.0 t3.0 t4.0 t5.0 in
    let short : IsShortHead made.0 = record { width = t1.1; k = t2.1.k; log_n = t2.1.log_n; big_ones = t2.1.ones; big_error = t2.1.error; n = t3.1.n; small_ones = t3.1.ones; small_error = t3.1.error; boot_base = t4.1.base; boot_level = t4.1.level; switch_base = t5.1.base; switch_level = t5.1.level } in
    at_given (λ y. (bytes ≡ head_text y.0 ++ y.1) × IsShortHead y.0) made x switch.2 (whole, short)

pub head_again : (h : Head) (rest : List ℕ) → IsShortHead h → head_at (head_text h ++ rest) ≡ Ok (h, rest)
unfolding head_at
head_again h rest is =
    let switch = gadget_line (codes "switch ") h.switch ++ rest in
    let boot = gadget_line (codes "boot ") h.boot ++ switch in
    let lwe = lwe_line h.lwe ++ boot in
    let glwe = glwe_line h.glwe ++ lwe in
    let regrouped : head_text h ++ rest ≡ title ++ (last_field (codes "width ") h.width ++ glwe) = regroup_head title (last_field (codes "width ") h.width) (params_lines h) rest ∙ ap (λ r. title ++ (last_field (codes "width ") h.width ++ r)) (regroup_four (glwe_line h.glwe) (lwe_line h.lwe) (gadget_line (codes "boot ") h.boot) (gadget_line (codes "switch ") h.switch) rest) in
    ap head_at regrouped
    ∙ rw (
      width_again h.width glwe is.width,
      glwe_again h.glwe lwe (record { k = is.k; log_n = is.log_n; ones = is.big_ones; error = is.big_error }),
      lwe_again h.lwe boot (record { n = is.n; ones = is.small_ones; error = is.small_error }),
      gadget_again 5 (codes "boot ") h.boot switch (record { base = is.boot_base; level = is.boot_level }),
      gadget_again 6 (codes "switch ") h.switch rest (record { base = is.switch_base; level = is.switch_level }),
    ) refl
