-- How large the numbers of a circuit's operations are, and how many entries and terms they have.
use Rattle.std.proofs.Common.{◌≡◌, ◌≢◌, ℕ, zero, suc, ◌+◌, ◌*◌, ◌-◌, ◌<◌, ◌≤◌, ◌^◌, Bool, true, false, cond, ◌||◌, List, [], ◌∷◌, ◌++◌, length, map, All, ℤ, pos, negsuc, ◌+ℤ◌, ◌-ℤ◌, ◌<ℤ◌, ◌≤ℤ◌, Option, ap, sym, refl, ◌∙◌, subst, arith, length-append, append_assoc, mul-le-mul}
use Rattle.std.specs.Prelude.{Some, None, IsTrue, IsSomeAnd, slice_get, filter_map, unsigned_abs, count_by}
use Rattle.std.specs.List.{AllByRecursion, list_any}
use Rattle.std.proofs.Math.Pow.{pow_mono}
use Rattle.std.proofs.lemmas.Int.{ints}
use Rattle.std.proofs.lemmas.List.Elements.{recursion_from_All}
use Rattle.std.proofs.lemmas.List.{append-nil}
use Rattle.std.proofs.lemmas.List.Sums.{sum_by-append, sum_by-cons}
use Rattle.forms.specs.Forms.{range_at, span_of, AreRising}
use Rattle.forms.specs.Limits.{most_weight, most_constant, least_number, most_number}
use Rattle.forms.specs.Ranges.{IsNumber, IsNumberRange}
use Rattle.forms.specs.Laws.{FormLaws}
use Rattle.fhe_params.specs.declared.params.Params.{Params}
use Rattle.fhe_params.specs.Params.{IsParams}
use Rattle.tfhe_level.specs.declared.level.TfheOp.{TfheOp}
use Rattle.tfhe_level.specs.declared.level.TfheOp.TheVariants.{Input, Lin, Switch, Boot, Out}
use Rattle.tfhe_level.specs.Operations.{is_leaf, is_lin, is_switch, is_boot, is_big_node}
use Rattle.tfhe_level.specs.Rules.{Stands, range_on, IsTerm, KeepsRule, KeepRules}
use Rattle.tfhe_level.specs.Laws.{NodeLaws}
use Rattle.circuit_file.proofs.Ranges.{stands_below, stands_with_more, range_in_front, ranges_rise}

-- ---- the numbers of one operation

pub record IsSmallTerm (n : ℕ) (t : ℕ × ℤ) : Type 0 where
  pub leaf : t.0 < n
  pub weight : unsigned_abs t.1 ≤ 2 ^ 40

-- a number of an input, an entry or an out
pub record IsSmallNumber (z : ℤ) : Type 0 where
  pub size : unsigned_abs z ≤ 2 ^ 16

-- operands are among the first n operations
abbrev pub IsSmall : ℕ → TfheOp → Type 0
IsSmall n (Input lo hi) = IsSmallNumber lo × IsSmallNumber hi
IsSmall n (Lin constant terms) = (unsigned_abs constant ≤ 2 ^ 41) × AllByRecursion (IsSmallTerm n) terms × (length terms ≤ n)
IsSmall n (Switch source) = source < n
IsSmall n (Boot source entries) = (source < n) × AllByRecursion IsSmallNumber entries
IsSmall n (Out source lo hi) = (source < n) × IsSmallNumber lo × IsSmallNumber hi

small_number : (z : ℤ) → least_number ≤ℤ z → z ≤ℤ most_number → IsSmallNumber z
small_number (pos n) low high = record { size = omega (arith, ints, low, high) }
small_number (negsuc n) low high = record { size = omega (arith, ints, low, high) }

small_range : (lo hi : ℤ) → IsNumberRange lo hi → IsSmallNumber lo × IsSmallNumber hi
small_range lo hi is = (small_number lo is.low (omega (arith, ints, is.rising, is.high)), small_number hi (omega (arith, ints, is.low, is.rising)) is.high)

small_entries : (entries : List ℤ) → AllByRecursion IsNumber entries → AllByRecursion IsSmallNumber entries
small_entries [] all = tt
small_entries (e ∷ entries) all = (small_number e all.0.low all.0.high, small_entries entries all.1)

small_terms : (n : ℕ) (earlier : List TfheOp) (terms : List (ℕ × ℤ)) → length earlier ≤ n → AllByRecursion (IsTerm earlier) terms → AllByRecursion (IsSmallTerm n) terms
small_terms n earlier [] le all = tt
small_terms n earlier (t ∷ terms) le all =
    (record { leaf = omega (arith, le, stands_below is_leaf earlier t.0 all.0.leaf); weight = all.0.size }, small_terms n earlier terms le all.1)

-- terms that rise are no more than their leaves
rising_few : (low n : ℕ) (terms : List (ℕ × ℤ)) → low ≤ n → AreRising low terms → AllByRecursion (IsSmallTerm n) terms → low + length terms ≤ n
rising_few low n [] le rising all = omega (arith, le)
rising_few low n (t ∷ terms) le rising all =
    let later = rising_few (t.0 + 1) n terms (omega (arith, all.0.leaf)) rising.1 all.1 in
    omega (arith, rising.0, later)

small_op : (n : ℕ) (all earlier : List TfheOp) (op : TfheOp) → length earlier ≤ n → KeepsRule all earlier op → IsSmall n op
small_op n all earlier (Input lo hi) le is = small_range lo hi is.range
small_op n all earlier (Lin constant terms) le is =
    let each = small_terms n earlier terms le (recursion_from_All (IsTerm earlier) terms is.each) in
    (is.size, each, omega (arith, rising_few 0 n terms (omega arith) is.rising each))
small_op n all earlier (Switch source) le is = omega (arith, le, stands_below is_big_node earlier source is.operand)
small_op n all earlier (Boot source entries) le is = (omega (arith, le, stands_below is_switch earlier source is.operand), small_entries entries (recursion_from_All IsNumber entries is.each))
small_op n all earlier (Out source lo hi) le is =
    let ends = small_range lo hi is.range in
    (omega (arith, le, stands_below is_big_node earlier source is.operand), ends.0, ends.1)

pub small_ops : (n : ℕ) (all earlier ops : List TfheOp) → length earlier + length ops ≤ n → KeepRules all earlier ops → AllByRecursion (IsSmall n) ops
small_ops n all earlier [] le keep = tt
small_ops n all earlier (op ∷ ops) le keep =
    (small_op n all earlier op (omega (arith, le)) keep.0, small_ops n all (earlier ++ op ∷ []) ops (omega (arith, le, length-append earlier (op ∷ []))) keep.1)

-- ---- tables have an entry for each number of their operand

-- each table has as many entries as P says
abbrev pub HasEntries : (ℕ → Type 0) → TfheOp → Type 0
HasEntries P (Boot source entries) = P (length entries)
HasEntries P _ = Unit {0}

or_right : (a b : Bool) → b ≡ true → (a || b) ≡ true
or_right true b e = refl
or_right false b e = e

any_among : {A : Type 0} (p : A → Bool) (xs : List A) (x : A) (ys : List A) → p x ≡ true → list_any p (xs ++ x ∷ ys) ≡ true
any_among p [] x ys e = rw e refl
any_among p (z ∷ xs) x ys e = or_right (p z) (list_any p (xs ++ x ∷ ys)) (any_among p xs x ys e)

-- what holds of the number of entries, if it holds of the numbers of each key switch's range
entries_of : (P : ℕ → Type 0) (all earlier : List TfheOp) (op : TfheOp) (others : List TfheOp) → all ≡ earlier ++ op ∷ others
    → (list_any is_boot all ≡ true → (source n : ℕ) → Stands is_switch all source → pos n ≡ span_of (range_on all source) +ℤ pos 1 → P n)
    → KeepsRule all earlier op → HasEntries P op
entries_of P all earlier (Input lo hi) others same by is = tt
entries_of P all earlier (Lin constant terms) others same by is = tt
entries_of P all earlier (Switch source) others same by is = tt
entries_of P all earlier (Boot source entries) others same by is =
    let stands = subst (λ os. Stands is_switch os source) (sym same) (stands_with_more is_switch earlier (Boot source entries ∷ others) source is.operand) in
    let range : range_on all source ≡ range_on earlier source = ap (λ os. range_on os source) same ∙ range_in_front earlier (Boot source entries ∷ others) source (stands_below is_switch earlier source is.operand) in
    let some : list_any is_boot all ≡ true = ap (λ os. list_any is_boot os) same ∙ any_among is_boot earlier (Boot source entries) others refl in
    by some source (length entries) stands (is.number ∙ ap (λ r. span_of r +ℤ pos 1) (sym range))
entries_of P all earlier (Out source lo hi) others same by is = tt

pub entries_by_span : (P : ℕ → Type 0) (all earlier ops : List TfheOp) → all ≡ earlier ++ ops
    → (list_any is_boot all ≡ true → (source n : ℕ) → Stands is_switch all source → pos n ≡ span_of (range_on all source) +ℤ pos 1 → P n)
    → KeepRules all earlier ops → AllByRecursion (HasEntries P) ops
entries_by_span P all earlier [] same by keep = tt
entries_by_span P all earlier (op ∷ ops) same by keep =
    (entries_of P all earlier op ops same by keep.0, entries_by_span P all (earlier ++ op ∷ []) ops (same ∙ sym (append_assoc earlier (op ∷ []) ops)) by keep.1)

-- no table is empty
some_number : (n : ℕ) (range : ℤ × ℤ) → range.0 ≤ℤ range.1 → pos n ≡ span_of range +ℤ pos 1 → 1 ≤ n
some_number n range rises is = omega (arith, ints, rises, is)

pub some_entries : FormLaws → NodeLaws → (ops : List TfheOp) → KeepRules ops [] ops → AllByRecursion (HasEntries (λ n. 1 ≤ n)) ops
some_entries F N ops keep =
    entries_by_span (λ n. 1 ≤ n) ops [] ops refl (λ boot source n stands is. some_number n (range_on ops source) (ranges_rise F N ops keep source (stands_below is_switch ops source stands)) is) keep

-- ---- how many operations there are of a kind

count_more : (kind : TfheOp → Bool) (ops : List TfheOp) (op : TfheOp) → count_by kind (ops ++ op ∷ []) ≡ count_by kind ops + cond (kind op) 1 0
count_more kind ops op =
    omega (arith, sum_by-append (λ x. cond (kind x) 1 0) ops (op ∷ []), sum_by-cons (λ x. cond (kind x) 1 0) op [])

one_fits : (test : Bool) (count most : ℕ) → count ≤ most → (test ≡ true → count < most) → count + cond test 1 0 ≤ most
one_fits true count most few less = omega (arith, less refl)
one_fits false count most few less = omega (arith, few)

pub counted_most : (kind : TfheOp → Bool) (most : ℕ) (all : List TfheOp) → ((earlier : List TfheOp) (op : TfheOp) → KeepsRule all earlier op → kind op ≡ true → count_by kind earlier < most)
    → (earlier ops : List TfheOp) → KeepRules all earlier ops → count_by kind earlier ≤ most → count_by kind (earlier ++ ops) ≤ most
counted_most kind most all each earlier [] keep few = omega (arith, ap (λ os. count_by kind os) (append-nil earlier), few)
counted_most kind most all each earlier (op ∷ ops) keep few =
    let more = count_more kind earlier op in
    let fits = one_fits (kind op) (count_by kind earlier) most few (each earlier op keep.0) in
    let next = counted_most kind most all each (earlier ++ op ∷ []) ops keep.1 (omega (arith, more, fits)) in
    omega (arith, ap (λ os. count_by kind os) (append_assoc earlier (op ∷ []) ops), next)
