-- What is read of a text, against programs and what begins one.
use Rattle.std.proofs.Common.{◌≡◌, ℕ, suc, ◌+◌, ◌-◌, ◌==◌, false, List, [], ◌∷◌, ◌++◌, length, get_or, cond, map, refl, sym, ap, ◌∙◌, subst, inl, inr, arith, Option, Some, None, Result, Ok, Err}
use Rattle.std.proofs.lemmas.Bool.{cond-false, ne_eqb}
use Rattle.std.proofs.lemmas.List.{append-nil, append_assoc, length-append, get_or_at}
use Rattle.mlir_lex.specs.declared.TokenKind.TheVariants.{Word}
use Rattle.mlir_lex.specs.declared.Token.{Token}
use Rattle.mlir_lex.specs.declared.LexFault.{LexFault}
use Rattle.mlir_lex.specs.Reading.{tokens_of}
use Rattle.fhe_text.specs.declared.fault.TextFault.{TextFault}
use Rattle.fhe_text.specs.declared.fault.Wrong.{Wrong}
use Rattle.fhe_text.specs.declared.fault.TextKind.{TextKind}
use Rattle.fhe_text.specs.declared.source.Source.{Source}
use Rattle.fhe_text.specs.Patterns.{Pattern, IsWhole}
use Rattle.fhe_text.specs.Roles.{Spelled, Role}
use Rattle.fhe_text.specs.Grammar.{program}
use Rattle.fhe_text.specs.Conditions.{Part}
use Rattle.fhe_text.specs.Program.{roles_in, source_of, IsProgram, BeginsProgram}
use Rattle.fhe_text.specs.Faults.{spelled, Spells, fault_at, MayStand, IsKindAt, IsEarlyEnd, IsTextFault}
use Rattle.fhe_text.specs.Reading.{parts_from, start_of, end_fault, source_at_end, source_or_fault, program_of}
use Rattle.fhe_text.proofs.Whole.{AreWhole, goes_on-cut, cut-goes_on}
use Rattle.fhe_text.proofs.Plain.{grammar_is_plain}
use Rattle.fhe_text.proofs.Parts.{PartsThen, Begins, MayStandIn, IsKindIn, IsReadAs, read_as, whole_read}

-- the grammar, and nothing behind it
abbrev grammar : List (Pattern Role)
grammar = program ∷ []

-- ---- the relations of the grammar, and those of what is read

whole_alone : (roles : List Role) → AreWhole grammar (roles ++ []) → IsWhole program roles
whole_alone roles h = subst (λ (l : List Role). IsWhole program l) (sym (append-nil h.0) ∙ ap (λ l. h.0 ++ l) (sym h.4) ∙ sym h.2 ∙ append-nil roles) h.3

alone_whole : (roles : List Role) → IsWhole program roles → AreWhole grammar (roles ++ [])
alone_whole roles h = (roles, [], refl, h, refl)

program_from : (tokens : List Spelled) (parts : List Part) → PartsThen grammar [] tokens parts [] → IsProgram tokens (source_of parts)
program_from tokens parts h = (parts, h.tokens_are, whole_alone (roles_in parts) h.whole, h.met, refl)

begins_from : (tokens : List Spelled) → Begins grammar [] tokens → BeginsProgram tokens
begins_from tokens h = (h.0, h.2.tokens_are, goes_on-cut program (roles_in h.0) (h.1, h.2.whole), h.2.met)

begins_to : (tokens : List Spelled) → BeginsProgram tokens → Begins grammar [] tokens
begins_to tokens h = let on = cut-goes_on program (roles_in h.0) h.2 in (h.0, on.0, record { tokens_are = h.1; whole = on.1; met = h.3 })

may_from : (tokens : List Spelled) (role : Role) (next : Spelled) → MayStandIn grammar [] tokens role next → MayStand tokens role next
may_from tokens role next h =
    let whole : AreWhole grammar ((roles_in h.0 ++ role ∷ []) ++ h.1) = subst (λ (l : List Role). AreWhole grammar l) (sym (append_assoc (roles_in h.0) (role ∷ []) h.1)) h.2.whole in
    (h.0, h.2.tokens_are, goes_on-cut program (roles_in h.0 ++ role ∷ []) (h.1, whole), h.2.met, h.3)

may_to : (tokens : List Spelled) (role : Role) (next : Spelled) → MayStand tokens role next → MayStandIn grammar [] tokens role next
may_to tokens role next h =
    let on = cut-goes_on program (roles_in h.0 ++ role ∷ []) h.2 in
    (h.0, on.0, record { tokens_are = h.1; whole = subst (λ (l : List Role). AreWhole grammar l) (append_assoc (roles_in h.0) (role ∷ []) on.0) on.1; met = h.3 }, h.4)

kind_from : (tokens : List Spelled) (next : Spelled) (kind : TextKind) → IsKindIn grammar [] tokens next kind → IsKindAt tokens next kind
kind_from tokens next kind (inl h) = inl (h.0, may_from tokens h.0 next h.1, h.2)
kind_from tokens next kind (inr h) = inr ((λ role m. h.0 role (may_to tokens role next m)), h.1)

-- ---- places

-- a list that is mapped to two parts is in two parts
record Taken (bytes : List ℕ) (tokens : List Token) (front : List Spelled) (next : Spelled) (behind : List Spelled) : Type 0 where
  pub before : List Token
  pub one : Token
  pub after : List Token
  pub whole : tokens ≡ before ++ one ∷ after
  pub before_is : map (spelled bytes) before ≡ front
  pub one_is : spelled bytes one ≡ next
  pub after_is : map (spelled bytes) after ≡ behind

taken : (bytes : List ℕ) (tokens : List Token) (front : List Spelled) (next : Spelled) (behind : List Spelled) → map (spelled bytes) tokens ≡ front ++ next ∷ behind → Taken bytes tokens front next behind
taken bytes [] [] next behind e = absurd cc
taken bytes [] (f ∷ front) next behind e = absurd cc
taken bytes (token ∷ tokens) [] next behind e =
    let head : spelled bytes token ≡ next = cc in
    let tail : map (spelled bytes) tokens ≡ behind = cc in
    record { before = []; one = token; after = tokens; whole = refl; before_is = refl; one_is = head; after_is = tail }
taken bytes (token ∷ tokens) (f ∷ front) next behind e =
    let head : spelled bytes token ≡ f = cc in
    let tail : map (spelled bytes) tokens ≡ front ++ next ∷ behind = cc in
    let rest = taken bytes tokens front next behind tail in
    record { before = token ∷ rest.before; one = rest.one; after = rest.after; whole = ap (λ l. token ∷ l) rest.whole; before_is = cc (head, rest.before_is); one_is = rest.one_is; after_is = rest.after_is }

-- where it starts
start_there : (tokens before after : List Token) (one : Token) (left : ℕ) → tokens ≡ before ++ one ∷ after → left ≡ suc (length after) → start_of tokens left ≡ one.start
start_there tokens before after one left whole count =
    let long : length tokens ≡ length before + suc (length after) = ap (λ (l : List Token). length l) whole ∙ length-append before (one ∷ after) in
    let place : length tokens - left ≡ length before = omega (arith, long, count) in
    let none : Token = record { kind = Word; start = 0; end = 0 } in
    ap (λ n. (get_or tokens n none).start) place ∙ ap (λ (l : List Token). (get_or l (length before) none).start) whole
    ∙ ap (λ (t : Token). t.start) (get_or_at before one after none (length before) refl)

-- ---- the text

-- what a text is, by what was read
abbrev IsResult : List ℕ → Result Source TextFault → Type 0
IsResult bytes (Ok source) = Spells bytes source
IsResult bytes (Err fault) = IsTextFault bytes fault

not_zero : (n m : ℕ) → n ≡ suc m → (n == 0) ≡ false
not_zero n m e = ne_eqb n 0 (λ f. absurd (omega (arith, e, f)))

result_at_end : (bytes : List ℕ) (stop : Option LexFault) (parts : List Part) → (tokens_of bytes).1 ≡ stop → PartsThen grammar [] (map (spelled bytes) (tokens_of bytes).0) parts [] → IsResult bytes (source_at_end bytes stop parts)
result_at_end bytes None parts e h = (e, program_from (map (spelled bytes) (tokens_of bytes).0) parts h)
result_at_end bytes (Some stop) parts e h =
    inr (
      begins_from (map (spelled bytes) (tokens_of bytes).0) (parts, [], h),
      subst (λ (s : Option LexFault). IsEarlyEnd bytes (tokens_of bytes).0 s (end_fault bytes (Some stop))) (sym e) refl,
    )

no_source : (bytes : List ℕ) (tokens : List Spelled) → ((parts : List Part) → PartsThen grammar [] tokens parts [] → ⊥) → (source : Source) → IsProgram tokens source → ⊥
no_source bytes tokens none source h = none h.0 (record { tokens_are = h.1; whole = alone_whole (roles_in h.0) h.2; met = h.3 })

early_end : (bytes : List ℕ) (stop : Option LexFault) → (tokens_of bytes).1 ≡ stop → ((source : Source) → IsProgram (map (spelled bytes) (tokens_of bytes).0) source → ⊥) → IsEarlyEnd bytes (tokens_of bytes).0 stop (end_fault bytes stop)
early_end bytes None e none = (none, refl)
early_end bytes (Some stop) e none = refl

result_is : (bytes : List ℕ) (read : Result (List Part) Wrong) → IsReadAs grammar [] (map (spelled bytes) (tokens_of bytes).0) read → IsResult bytes (source_or_fault bytes (tokens_of bytes).0 (tokens_of bytes).1 read)
result_is bytes (Ok all) (parts, same, h) =
    subst (λ (ps : List Part). IsResult bytes (source_at_end bytes (tokens_of bytes).1 ps)) (sym same) (result_at_end bytes (tokens_of bytes).1 parts refl h)
result_is bytes (Err wrong) (inl (front, next, behind, tokens_are, left, begins, not_begins, kind)) =
    let there = taken bytes (tokens_of bytes).0 front next behind tokens_are in
    let count : wrong.left ≡ suc (length there.after) = left ∙ ap (λ (l : List Spelled). suc (length l)) (sym there.after_is) ∙ ap (λ n. suc n) (length_map there.after) in
    let start : start_of (tokens_of bytes).0 wrong.left ≡ there.one.start = start_there (tokens_of bytes).0 there.before there.after there.one wrong.left there.whole count in
    let fault : cond (wrong.left == 0) (end_fault bytes (tokens_of bytes).1) (fault_at bytes (start_of (tokens_of bytes).0 wrong.left) wrong.kind) ≡ fault_at bytes there.one.start wrong.kind =
    cond-false (wrong.left == 0) _ _ (not_zero wrong.left (length there.after) count) ∙ ap (λ n. fault_at bytes n wrong.kind) start in
    inl (
      there.before,
      there.one,
      there.after,
      there.whole,
      subst (λ (l : List Spelled). BeginsProgram l) (sym there.before_is) (begins_from front begins),
      (λ b. not_begins (subst (λ (l : List Spelled). Begins grammar [] l) (together there.before_is there.one_is) (begins_to _ b))),
      wrong.kind,
      subst (λ (s : Spelled). IsKindAt (map (spelled bytes) there.before) s wrong.kind) (sym there.one_is) (subst (λ (l : List Spelled). IsKindAt l next wrong.kind) (sym there.before_is) (kind_from front next wrong.kind kind)),
      fault,
    )
  where
    length_map : (tokens : List Token) → length (map (spelled bytes) tokens) ≡ length tokens
    length_map [] = refl
    length_map (token ∷ tokens) = ap (λ n. suc n) (length_map tokens)

    together : {before : List Spelled} {one : Spelled} → before ≡ front → one ≡ next → before ++ one ∷ [] ≡ front ++ next ∷ []
    together {before} {one} e f = ap (λ l. l ++ one ∷ []) e ∙ ap (λ (s : Spelled). front ++ s ∷ []) f
result_is bytes (Err wrong) (inr (same, begins, none)) =
    let left : wrong.left ≡ 0 = ap (λ (w : Wrong). w.left) same in
    let fault : end_fault bytes (tokens_of bytes).1 ≡ cond (wrong.left == 0) (end_fault bytes (tokens_of bytes).1) (fault_at bytes (start_of (tokens_of bytes).0 wrong.left) wrong.kind) =
    subst (λ (n : ℕ). end_fault bytes (tokens_of bytes).1 ≡ cond (n == 0) (end_fault bytes (tokens_of bytes).1) (fault_at bytes (start_of (tokens_of bytes).0 n) wrong.kind)) (sym left) refl in
    inr (
      begins_from (map (spelled bytes) (tokens_of bytes).0) begins,
      subst (λ (f : TextFault). IsEarlyEnd bytes (tokens_of bytes).0 (tokens_of bytes).1 f) fault (early_end bytes (tokens_of bytes).1 refl (no_source bytes (map (spelled bytes) (tokens_of bytes).0) none)),
    )

-- what the function of the bytes gives is what the relations say
pub program_of-is : (bytes : List ℕ) → IsResult bytes (program_of bytes)
unfolding program_of
program_of-is bytes =
    result_is bytes (parts_from grammar [] (map (spelled bytes) (tokens_of bytes).0)) (read_as grammar [] (map (spelled bytes) (tokens_of bytes).0) grammar_is_plain)

-- a source that the bytes spell is what it gives
pub spelled_read : (bytes : List ℕ) (source : Source) → Spells bytes source → program_of bytes ≡ Ok source
unfolding program_of
spelled_read bytes source h =
    let parts : List Part = h.1.0 in
    let then_ : PartsThen grammar [] (map (spelled bytes) (tokens_of bytes).0) parts [] = record { tokens_are = h.1.1; whole = alone_whole (roles_in parts) h.1.2; met = h.1.3 } in
    ap (λ read. source_or_fault bytes (tokens_of bytes).0 (tokens_of bytes).1 read) (whole_read grammar [] (map (spelled bytes) (tokens_of bytes).0) parts grammar_is_plain then_)
    ∙ ap (λ (stop : Option LexFault). source_at_end bytes stop parts) h.0 ∙ ap (λ s. Ok s) (sym h.1.4)

-- ---- the laws

pub read_spelled : (bytes : List ℕ) (source : Source) → program_of bytes ≡ Ok source → Spells bytes source
read_spelled bytes source e = subst (λ (r : Result Source TextFault). IsResult bytes r) e (program_of-is bytes)

pub read_fault : (bytes : List ℕ) (fault : TextFault) → program_of bytes ≡ Err fault → IsTextFault bytes fault
read_fault bytes fault e = subst (λ (r : Result Source TextFault). IsResult bytes r) e (program_of-is bytes)

pub one_source : (bytes : List ℕ) (source other : Source) → Spells bytes source → Spells bytes other → source ≡ other
one_source bytes source other h g =
    let first = spelled_read bytes source h in
    let second = spelled_read bytes other g in
    cc
