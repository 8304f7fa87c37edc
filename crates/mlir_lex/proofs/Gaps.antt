-- How a gap of blanks and comments goes on.
use Rattle.std.proofs.Common.{◌≡◌, ◌⊎◌, ℕ, ◌+◌, ◌-◌, ◌≤◌, Bool, true, false, not, ◌==◌, ◌++◌, nat_eq, List, [], ◌∷◌, length, take, drop, refl, ap, sym, ◌∙◌, inl, inr, arith, codes, zero-add, one-add, subst, ◌&&◌}
use Rattle.std.specs.List.{prefix_len, position_or_len, list_all, starts_with, AllByRecursion}
use Rattle.std.proofs.lemmas.Bool.{and_parts, and_from, cond-true, cond-false, cases_Bool, eqb-true, eq-eqb, not_from_false, false≢true}
use Rattle.std.proofs.lemmas.List.{drop-drop, take_rest, append-nil, append_assoc, length-append}
use Rattle.std.proofs.lemmas.Grind.{common_steps}
use Rattle.mlir_lex.specs.Spellings.{is_blank}
use Rattle.mlir_lex.specs.Tokens.{gap_length}
use Rattle.mlir_lex.specs.Pieces.{has_no_line_feed, IsBlankOrComment, joined, IsGap, ends_gap, IsGapLength}

-- a byte more before a gap
gap_step : (n : ℕ) (x : ℕ) (xs : List ℕ) (g : ℕ) → g ≡ n + gap_length false (drop n xs) → 1 + g ≡ (1 + n) + gap_length false (drop (1 + n) (x ∷ xs))
gap_step n x xs g e =
    let d : drop (1 + n) (x ∷ xs) ≡ drop n xs = grind (arith, common_steps) in
    rw d (omega (arith, e))

-- where nothing is taken, nothing is left out
none_taken : (g : List ℕ → ℕ) (n : ℕ) (xs : List ℕ) → n ≡ 0 → g xs ≡ n + g (drop n xs)
none_taken g n xs e = rw e (sym (zero-add (g xs)))

-- a gap begins with the blanks at the front
pub gap_length-blanks : (xs : List ℕ) → gap_length false xs ≡ prefix_len is_blank xs + gap_length false (drop (prefix_len is_blank xs) xs)
gap_length-blanks [] = refl
gap_length-blanks (x ∷ xs) =
    elim (cases_Bool (is_blank x)) [
      | inl e ↦ rw e (gap_step (prefix_len is_blank xs) x xs (gap_length false xs) (gap_length-blanks xs))
      | inr e ↦ none_taken (λ ys. gap_length false ys) (prefix_len is_blank (x ∷ xs)) (x ∷ xs) (cond-false (is_blank x) (1 + prefix_len is_blank xs) 0 e)
    ]

-- in a comment, a gap goes on at the first LF
pub gap_length-comment : (xs : List ℕ) → gap_length true xs ≡ position_or_len (λ b. b == 10) xs + gap_length false (drop (position_or_len (λ b. b == 10) xs) xs)
gap_length-comment [] = refl
gap_length-comment (x ∷ xs) =
    elim (cases_Bool (x == 10)) [
      | inl e ↦ subst (λ (b : ℕ). gap_length true (b ∷ xs) ≡ position_or_len (λ c. c == 10) (b ∷ xs) + gap_length false (drop (position_or_len (λ c. c == 10) (b ∷ xs)) (b ∷ xs))) (sym (eqb-true x 10 e)) (sym (zero-add (1 + gap_length false xs)))
      | inr e ↦ rw e (gap_step (position_or_len (λ b. b == 10) xs) x xs (gap_length true xs) (gap_length-comment xs))
    ]

-- where neither a blank nor a comment follows, the gap ends
pub gap_length-end : (xs : List ℕ) → starts_with nat_eq (drop (prefix_len is_blank xs) xs) (codes "//") ≡ false → gap_length false xs ≡ prefix_len is_blank xs
gap_length-end [] h = refl
gap_length-end (x ∷ xs) h =
    elim (cases_Bool (is_blank x)) [
      | inl e ↦ rw e (ap (λ n. 1 + n) (gap_length-end xs (subst (λ (n : ℕ). starts_with nat_eq (drop n (x ∷ xs)) (codes "//") ≡ false) (cond-true (is_blank x) (1 + prefix_len is_blank xs) 0 e ∙ one-add (prefix_len is_blank xs)) h)))
      | inr e ↦ rw e (cond-false (starts_with nat_eq (x ∷ xs) (codes "//")) (1 + gap_length true xs) 0 (subst (λ (n : ℕ). starts_with nat_eq (drop n (x ∷ xs)) (codes "//") ≡ false) (cond-false (is_blank x) (1 + prefix_len is_blank xs) 0 e) h))
    ]

-- what begins with `//` has two such bytes
slashes : (P : List ℕ → Type 0) (xs : List ℕ) → starts_with nat_eq xs (codes "//") ≡ true → ((ys : List ℕ) → P (47 ∷ 47 ∷ ys)) → P xs
slashes P [] h f = absurd (false≢true h)
slashes P (b ∷ []) h f = absurd (false≢true (and_parts (47 == b) false h).1)
slashes P (b ∷ c ∷ bs) h f =
    let first : 47 ≡ b = eqb-true 47 b (and_parts (47 == b) (47 == c && true) h).0 in
    let second : 47 ≡ c = eqb-true 47 c (and_parts (47 == c) true (and_parts (47 == b) (47 == c && true) h).1).0 in
    subst (λ (x : ℕ). P (x ∷ c ∷ bs)) first (subst (λ (x : ℕ). P (47 ∷ x ∷ bs)) second (f bs))

-- a comment at the front belongs to the gap
gap_length-slashes : (xs : List ℕ) → starts_with nat_eq xs (codes "//") ≡ true → gap_length false xs ≡ gap_length true xs
gap_length-slashes xs h = slashes (λ ys. gap_length false ys ≡ gap_length true ys) xs h (λ ys. refl)

-- and has at least its two slashes
pub comment_slashes : (xs : List ℕ) → starts_with nat_eq xs (codes "//") ≡ true → 2 ≤ position_or_len (λ b. b == 10) xs
comment_slashes xs h = slashes (λ ys. 2 ≤ position_or_len (λ b. b == 10) ys) xs h (λ ys. omega arith)

-- blanks and then a comment, and the gap goes on
pub gap_length-skip : (xs : List ℕ) (n m : ℕ) → n ≡ prefix_len is_blank xs → starts_with nat_eq (drop n xs) (codes "//") ≡ true → m ≡ position_or_len (λ b. b == 10) (drop n xs) → gap_length false xs ≡ n + (m + gap_length false (drop (n + m) xs))
gap_length-skip xs n m blanks h comment =
    let start : gap_length false xs ≡ n + gap_length false (drop n xs) = subst (λ (k : ℕ). gap_length false xs ≡ k + gap_length false (drop k xs)) (sym blanks) (gap_length-blanks xs) in
    let inside : gap_length false (drop n xs) ≡ m + gap_length false (drop m (drop n xs)) = gap_length-slashes (drop n xs) h ∙ subst (λ (k : ℕ). gap_length true (drop n xs) ≡ k + gap_length false (drop k (drop n xs))) (sym comment) (gap_length-comment (drop n xs)) in
    start ∙ ap (λ k. n + k) (inside ∙ ap (λ ys. m + gap_length false ys) (drop-drop m n xs))

-- a gap that goes on from a place ends behind the blanks there
pub gap_ends : (bytes : List ℕ) (at n : ℕ) → gap_length false bytes ≡ at + gap_length false (drop at bytes) → n ≡ prefix_len is_blank (take (length bytes - at) (drop at bytes)) → starts_with nat_eq (take (length bytes - (at + n)) (drop (at + n) bytes)) (codes "//") ≡ false → at + n ≡ gap_length false bytes
gap_ends bytes at n so_far blanks no_comment =
    let blank : n ≡ prefix_len is_blank (drop at bytes) = blanks ∙ ap (λ ys. prefix_len is_blank ys) (take_rest bytes at) in
    let plain : starts_with nat_eq (drop n (drop at bytes)) (codes "//") ≡ false = ap (λ ys. starts_with nat_eq ys (codes "//")) (drop-drop n at bytes ∙ sym (take_rest bytes (at + n))) ∙ no_comment in
    let ends : gap_length false (drop at bytes) ≡ n = gap_length-end (drop at bytes) (subst (λ (k : ℕ). starts_with nat_eq (drop k (drop at bytes)) (codes "//") ≡ false) blank plain) ∙ sym blank in
    sym (so_far ∙ ap (λ k. at + k) ends)

-- and goes on behind the blanks and the comment there
pub gap_goes_on : (bytes : List ℕ) (at n m : ℕ) → gap_length false bytes ≡ at + gap_length false (drop at bytes) → n ≡ prefix_len is_blank (take (length bytes - at) (drop at bytes)) → starts_with nat_eq (take (length bytes - (at + n)) (drop (at + n) bytes)) (codes "//") ≡ true → m ≡ position_or_len (λ b. b == 10) (take (length bytes - (at + n)) (drop (at + n) bytes)) → (gap_length false bytes ≡ at + n + m + gap_length false (drop (at + n + m) bytes)) × (2 ≤ m)
gap_goes_on bytes at n m so_far blanks slashes_there comment =
    let blank : n ≡ prefix_len is_blank (drop at bytes) = blanks ∙ ap (λ ys. prefix_len is_blank ys) (take_rest bytes at) in
    let same : take (length bytes - (at + n)) (drop (at + n) bytes) ≡ drop n (drop at bytes) = take_rest bytes (at + n) ∙ sym (drop-drop n at bytes) in
    let starts : starts_with nat_eq (drop n (drop at bytes)) (codes "//") ≡ true = ap (λ ys. starts_with nat_eq ys (codes "//")) (sym same) ∙ slashes_there in
    let skipped : m ≡ position_or_len (λ b. b == 10) (drop n (drop at bytes)) = comment ∙ ap (λ ys. position_or_len (λ b. b == 10) ys) same in
    let step = gap_length-skip (drop at bytes) n m blank starts skipped in
    let place : at + (n + m) ≡ at + n + m = omega arith in
    let left : drop (n + m) (drop at bytes) ≡ drop (at + n + m) bytes = drop-drop (n + m) at bytes ∙ ap (λ k. drop k bytes) place in
    let long : 2 ≤ position_or_len (λ b. b == 10) (drop n (drop at bytes)) = comment_slashes (drop n (drop at bytes)) starts in
    let value : gap_length false bytes ≡ at + (n + (m + gap_length false (drop (at + n + m) bytes))) = so_far ∙ ap (λ k. at + k) (step ∙ ap (λ ys. n + (m + gap_length false ys)) left) in
    (omega (arith, value), omega (arith, long, skipped))

-- blanks at the front belong to a gap
pub gap_length-after_blanks : (blanks bytes : List ℕ) → list_all is_blank blanks ≡ true → gap_length false (blanks ++ bytes) ≡ length blanks + gap_length false bytes
gap_length-after_blanks [] bytes h = sym (zero-add (gap_length false bytes))
gap_length-after_blanks (b ∷ blanks) bytes h =
    let parts = and_parts (is_blank b) (list_all is_blank blanks) h in
    let rest : gap_length false (blanks ++ bytes) ≡ length blanks + gap_length false bytes = gap_length-after_blanks blanks bytes parts.1 in
    rw (parts.0) (omega (arith, rest))

-- a blank or a comment before a gap makes a longer gap
one_more : (item gap : List ℕ) → IsBlankOrComment item → IsGap gap → IsGap (item ++ gap)
one_more item gap is_item is_gap = (item ∷ is_gap.0, ap (λ ys. item ++ ys) is_gap.1, (is_item, is_gap.2))

longer : (item bytes : List ℕ) (n : ℕ) → IsBlankOrComment item → IsGapLength bytes n → IsGapLength (item ++ bytes) (length item + n)
longer item bytes n is_item (inl (gap, rest, whole, is_gap, ends, count)) =
    inl (item ++ gap, rest, ap (λ ys. item ++ ys) whole ∙ sym (append_assoc item gap rest), one_more item gap is_item is_gap, ends, omega (arith, count, length-append item gap))
longer item bytes n is_item (inr (gap, text, whole, is_gap, no_end, count)) =
    inr (item ++ gap, text, ap (λ ys. item ++ ys) whole ∙ sym (append_assoc item gap (codes "//" ++ text)), one_more item gap is_item is_gap, no_end, omega (arith, count, length-append item bytes))

-- what follows two slashes: a comment up to its LF and then a gap of the length, or no LF
abbrev AfterSlashes : List ℕ → ℕ → Type 0
AfterSlashes bytes n =
    ((text rest : List ℕ) × (m : ℕ) × (bytes ≡ text ++ 10 ∷ rest) × (has_no_line_feed text ≡ true) × IsGapLength rest m × (n ≡ length text + (1 + m)))
    ⊎ ((has_no_line_feed bytes ≡ true) × (n ≡ length bytes))

one_more_in_comment : (b : ℕ) (bytes : List ℕ) (n : ℕ) → (b == 10) ≡ false → AfterSlashes bytes n → AfterSlashes (b ∷ bytes) (1 + n)
one_more_in_comment b bytes n other (inl (text, rest, m, whole, no_end, is_gap, count)) =
    inl (b ∷ text, rest, m, ap (λ ys. b ∷ ys) whole, and_from (not (b == 10)) (has_no_line_feed text) (not_from_false (b == 10) other) no_end, is_gap, omega (arith, count))
one_more_in_comment b bytes n other (inr (no_end, count)) =
    inr (and_from (not (b == 10)) (has_no_line_feed bytes) (not_from_false (b == 10) other) no_end, omega (arith, count))

-- a comment, up to its LF or to the end, with the gap behind it
comment_before : (bytes : List ℕ) (n : ℕ) → AfterSlashes bytes n → IsGapLength (47 ∷ 47 ∷ bytes) (2 + n)
comment_before bytes n (inl (text, rest, m, whole, no_end, is_gap, count)) =
    let item : List ℕ = 47 ∷ 47 ∷ (text ++ 10 ∷ []) in
    let more : IsGapLength (item ++ rest) (length item + m) = longer item rest m (inr (text, refl, no_end)) is_gap in
    let bytes_are : item ++ rest ≡ 47 ∷ 47 ∷ bytes = ap (λ ys. 47 ∷ 47 ∷ ys) (append_assoc text (10 ∷ []) rest ∙ sym whole) in
    let length_is : length item + m ≡ 2 + n = omega (arith, count, length-append text (10 ∷ [])) in
    subst (λ (k : ℕ). IsGapLength (47 ∷ 47 ∷ bytes) k) length_is (subst (λ (ys : List ℕ). IsGapLength ys (length item + m)) bytes_are more)
comment_before bytes n (inr (no_end, count)) = inr ([], bytes, refl, ([], refl, tt), no_end, omega (arith, count))

-- no gap stands before these bytes
no_gap : (b : ℕ) (bs : List ℕ) → is_blank b ≡ false → starts_with nat_eq (b ∷ bs) (codes "//") ≡ false → IsGapLength (b ∷ bs) 0
no_gap b bs no_blank no_comment = inl ([], b ∷ bs, refl, ([], refl, tt), and_from (not (is_blank b)) _ (not_from_false (is_blank b) no_blank) (not_from_false (starts_with nat_eq (b ∷ bs) (codes "//")) no_comment), refl)

-- what the length of a gap says, outside a comment and in one
abbrev IsLengthThere : Bool → List ℕ → Type 0
IsLengthThere false bytes = IsGapLength bytes (gap_length false bytes)
IsLengthThere true bytes = AfterSlashes bytes (gap_length true bytes)

-- the length at a blank, and where no gap stands
gap_at_blank : (b : ℕ) (bs : List ℕ) → is_blank b ≡ true → gap_length false (b ∷ bs) ≡ 1 + gap_length false bs
gap_at_blank b bs h = cond-true (is_blank b) (1 + gap_length false bs) _ h

gap_at_other : (b : ℕ) (bs : List ℕ) → is_blank b ≡ false → starts_with nat_eq (b ∷ bs) (codes "//") ≡ false → gap_length false (b ∷ bs) ≡ 0
gap_at_other b bs no_blank no_comment = cond-false (is_blank b) (1 + gap_length false bs) _ no_blank ∙ cond-false (starts_with nat_eq (b ∷ bs) (codes "//")) (1 + gap_length true bs) 0 no_comment

-- a byte that begins no comment
at_no_slashes : (b : ℕ) (bs : List ℕ) → starts_with nat_eq (b ∷ bs) (codes "//") ≡ false → (is_blank b ≡ true → IsLengthThere false bs) → IsLengthThere false (b ∷ bs)
at_no_slashes b bs no_comment rest =
    elim (cases_Bool (is_blank b)) [
      | inl e ↦ subst (λ (n : ℕ). IsGapLength (b ∷ bs) n) (sym (gap_at_blank b bs e)) (longer (b ∷ []) bs (gap_length false bs) (inl (b, refl, e)) (rest e))
      | inr e ↦ subst (λ (n : ℕ). IsGapLength (b ∷ bs) n) (sym (gap_at_other b bs e no_comment)) (no_gap b bs e no_comment)
    ]

-- two slashes
at_slashes : (bs : List ℕ) → IsLengthThere true bs → IsLengthThere false (47 ∷ 47 ∷ bs)
at_slashes bs rest =
    let same : 2 + gap_length true bs ≡ 1 + (1 + gap_length true bs) = omega arith in
    subst (λ (n : ℕ). IsGapLength (47 ∷ 47 ∷ bs) n) same (comment_before bs (gap_length true bs) rest)

-- a byte of a comment
in_a_comment : (b : ℕ) (bs : List ℕ) → IsLengthThere true bs → IsLengthThere false bs → IsLengthThere true (b ∷ bs)
in_a_comment b bs inside behind =
    elim (cases_Bool (b == 10)) [
      | inl e ↦ subst (λ (x : ℕ). IsLengthThere true (x ∷ bs)) (sym (eqb-true b 10 e)) (inl ([], bs, gap_length false bs, refl, refl, behind, omega arith))
      | inr e ↦ subst (λ (t : Bool). AfterSlashes (b ∷ bs) (1 + gap_length (not t) bs)) (sym e) (one_more_in_comment b bs (gap_length true bs) e inside)
    ]

length_there : (in_comment : Bool) (bytes : List ℕ) → IsLengthThere in_comment bytes
length_there true [] = inr (refl, refl)
length_there true (b ∷ bs) = in_a_comment b bs (length_there true bs) (length_there false bs)
length_there false [] = inl ([], [], refl, ([], refl, tt), refl, refl)
length_there false (b ∷ []) = at_no_slashes b [] (and_no (47 == b)) (λ _. length_there false [])
  where
    and_no : (t : Bool) → (t && false) ≡ false
    and_no true = refl
    and_no false = refl
length_there false (b ∷ c ∷ bs) =
    elim (cases_Bool (starts_with nat_eq (b ∷ c ∷ bs) (codes "//"))) [
      | inl e ↦
          let parts = and_parts (47 == b) (47 == c && true) e in
          let first : 47 ≡ b = eqb-true 47 b parts.0 in
          let second : 47 ≡ c = eqb-true 47 c (and_parts (47 == c) true parts.1).0 in
          subst (λ (x : ℕ). IsLengthThere false (x ∷ c ∷ bs)) first (subst (λ (x : ℕ). IsLengthThere false (47 ∷ x ∷ bs)) second (at_slashes bs (length_there true bs)))
      | inr e ↦ at_no_slashes b (c ∷ bs) e (λ _. length_there false (c ∷ bs))
    ]

-- a gap is blanks and comments, as many as stand there
pub gap_length-is_gap : (bytes : List ℕ) → IsGapLength bytes (gap_length false bytes)
gap_length-is_gap bytes = length_there false bytes
