-- The tests of rules are the rules.
use Rattle.std.proofs.Common.{◌≡◌, ◌≢◌, ℕ, zero, suc, ◌+◌, ◌<◌, ◌≤◌, ◌^◌, T, Bool, true, false, cond, ◌&&◌, eqb, leb, ltb, Option, List, [], ◌∷◌, ◌++◌, length, map, All, ℤ, pos, negsuc, ◌+ℤ◌, ◌≤ℤ◌, int_le, arith, sym, ap, refl, ◌∙◌, subst, length-append, append_assoc}
use Rattle.std.specs.Prelude.{slice_get, Some, None, IsTrue, IsSomeAnd, not, unsigned_abs, count_by}
use Rattle.std.specs.List.{list_all, list_any, AllByRecursion}
use Rattle.std.specs.Ordering.{int_eq}
use Rattle.std.proofs.lemmas.Bool.{and_parts, leb-true, ltb-true, eqb-true, lt-ltb, le-leb, eq-eqb}
use Rattle.std.proofs.lemmas.Bool.Decides.{Decides-int_eq}
use Rattle.std.proofs.lemmas.List.Elements.{All-from_recursion, recursion_from_All}
use Rattle.std.proofs.lemmas.List.Sums.{count_by-le-length}
use Rattle.forms.specs.Forms.{span_of, AreRising}
use Rattle.forms.specs.Limits.{least_number, most_number}
use Rattle.forms.specs.Ranges.{IsNumber, IsNumberRange}
use Rattle.tfhe_level.specs.declared.level.TfheOp.{TfheOp}
use Rattle.tfhe_level.specs.declared.level.TfheOp.TheVariants.{Input, Lin, Switch, Boot, Out}
use Rattle.tfhe_level.specs.Operations.{is_input, is_lin, is_switch, is_boot, is_out, is_leaf, is_big_node}
use Rattle.tfhe_level.specs.Rules.{Stands, range_on, IsTerm, IsInputNode, IsLinNode, IsSwitchNode, IsBootNode, IsOutNode, is_boot_on, KeepsRule}
use Rattle.circuit_nodes.specs.Tests.{some_is, stands, is_number, is_number_range, is_same_range, is_term, are_rising, keeps_input, keeps_lin, keeps_switch, keeps_boot, keeps_out, keeps_alone}
use Rattle.circuit_nodes.proofs.Counting.{count_first}
use Rattle.circuit_nodes.proofs.Ranges.{stands_rule}
use Rattle.circuit_nodes.proofs.Pushing.{holds}

-- ---- from a test to its rule

pub from_holds : (test : Bool) → T test → test ≡ true
from_holds true t = refl
from_holds false t = absurd t

number_rule : (z : ℤ) → IsTrue (is_number z) → IsNumber z
number_rule z e =
    let a = and_parts (int_le least_number z) (int_le z most_number) e in
    record { low = record { le = holds (int_le least_number z) a.0 }; high = record { le = holds (int_le z most_number) a.1 } }

number_test : (z : ℤ) → IsNumber z → IsTrue (is_number z)
number_test z is = rw (from_holds (int_le least_number z) is.low.le, from_holds (int_le z most_number) is.high.le) refl

numbers_rule : (zs : List ℤ) → IsTrue (list_all is_number zs) → AllByRecursion IsNumber zs
numbers_rule [] e = tt
numbers_rule (z ∷ zs) e = let a = and_parts (is_number z) (list_all is_number zs) e in (number_rule z a.0, numbers_rule zs a.1)

numbers_test : (zs : List ℤ) → AllByRecursion IsNumber zs → IsTrue (list_all is_number zs)
numbers_test [] all = refl
numbers_test (z ∷ zs) all = rw (number_test z all.0, numbers_test zs all.1) refl

range_rule : (lo hi : ℤ) → IsTrue (is_number_range lo hi) → IsNumberRange lo hi
range_rule lo hi e =
    let a = and_parts (int_le least_number lo) (int_le lo hi && int_le hi most_number) e in
    let b = and_parts (int_le lo hi) (int_le hi most_number) a.1 in
    record { low = record { le = holds (int_le least_number lo) a.0 }; rising = record { le = holds (int_le lo hi) b.0 }; high = record { le = holds (int_le hi most_number) b.1 } }

range_test : (lo hi : ℤ) → IsNumberRange lo hi → IsTrue (is_number_range lo hi)
range_test lo hi is = rw (from_holds (int_le least_number lo) is.low.le, from_holds (int_le lo hi) is.rising.le, from_holds (int_le hi most_number) is.high.le) refl

not_zero_rule : (test : Bool) (a b : ℤ) → (a ≡ b → test ≡ true) → not test ≡ true → a ≢ b
not_zero_rule true a b same e = absurd cc
not_zero_rule false a b same e = λ is. absurd (let t : false ≡ true = same is in cc)

not_zero_test : (test : Bool) (a b : ℤ) → (test ≡ true → a ≡ b) → a ≢ b → not test ≡ true
not_zero_test true a b same ne = absurd (ne (same refl))
not_zero_test false a b same ne = refl

some_test : (kind : TfheOp → Bool) (o : Option TfheOp) → IsSomeAnd o (λ op. IsTrue (kind op)) → IsTrue (some_is kind o)
some_test kind None is = absurd is
some_test kind (Some op) is = is

stands_test : (kind : TfheOp → Bool) (ops : List TfheOp) (place : ℕ) → Stands kind ops place → IsTrue (stands kind ops place)
stands_test kind ops place is = some_test kind (slice_get ops place) is

term_rule : (earlier : List TfheOp) (t : ℕ × ℤ) → IsTrue (is_term earlier t) → IsTerm earlier t
term_rule earlier t e =
    let a = and_parts (stands is_leaf earlier t.0) (not (int_eq t.1 (pos 0)) && leb (unsigned_abs t.1) (2 ^ 40)) e in
    let b = and_parts (not (int_eq t.1 (pos 0))) (leb (unsigned_abs t.1) (2 ^ 40)) a.1 in
    record { leaf = stands_rule is_leaf earlier t.0 a.0; weight = not_zero_rule (int_eq t.1 (pos 0)) t.1 (pos 0) (Decides-int_eq t.1 (pos 0)).1 b.0; size = leb-true (unsigned_abs t.1) (2 ^ 40) b.1 }

term_test : (earlier : List TfheOp) (t : ℕ × ℤ) → IsTerm earlier t → IsTrue (is_term earlier t)
term_test earlier t is = rw (stands_test is_leaf earlier t.0 is.leaf, not_zero_test (int_eq t.1 (pos 0)) t.1 (pos 0) (Decides-int_eq t.1 (pos 0)).0 is.weight, le-leb (unsigned_abs t.1) (2 ^ 40) is.size) refl

terms_rule : (earlier : List TfheOp) (terms : List (ℕ × ℤ)) → IsTrue (list_all (is_term earlier) terms) → AllByRecursion (IsTerm earlier) terms
terms_rule earlier [] e = tt
terms_rule earlier (t ∷ terms) e = let a = and_parts (is_term earlier t) (list_all (is_term earlier) terms) e in (term_rule earlier t a.0, terms_rule earlier terms a.1)

terms_test : (earlier : List TfheOp) (terms : List (ℕ × ℤ)) → AllByRecursion (IsTerm earlier) terms → IsTrue (list_all (is_term earlier) terms)
terms_test earlier [] all = refl
terms_test earlier (t ∷ terms) all = rw (term_test earlier t all.0, terms_test earlier terms all.1) refl

rising_rule : (low : ℕ) (terms : List (ℕ × ℤ)) → IsTrue (are_rising low terms) → AreRising low terms
unfolding are_rising
rising_rule low [] e = tt
rising_rule low (t ∷ terms) e = let a = and_parts (leb low t.0) (are_rising (t.0 + 1) terms) e in (leb-true low t.0 a.0, rising_rule (t.0 + 1) terms a.1)

rising_test : (low : ℕ) (terms : List (ℕ × ℤ)) → AreRising low terms → IsTrue (are_rising low terms)
unfolding are_rising
rising_test low [] rising = refl
rising_test low (t ∷ terms) rising = rw (le-leb low t.0 rising.0, rising_test (t.0 + 1) terms rising.1) refl

pair_rule : (a b : ℤ × ℤ) → IsTrue (is_same_range a b) → a ≡ b
pair_rule a b e =
    let s = and_parts (int_eq a.0 b.0) (int_eq a.1 b.1) e in
    let first : a.0 ≡ b.0 = (Decides-int_eq a.0 b.0).0 s.0 in
    let second : a.1 ≡ b.1 = (Decides-int_eq a.1 b.1).0 s.1 in
    ap (λ x. (x, a.1)) first ∙ ap (λ y. (b.0, y)) second

pair_test : (a b : ℤ × ℤ) → a ≡ b → IsTrue (is_same_range a b)
pair_test a b same = rw ((Decides-int_eq a.0 b.0).1 (ap (λ p. p.0) same), (Decides-int_eq a.1 b.1).1 (ap (λ p. p.1) same)) refl

-- as many of a kind as there are: all are
all_by_first : (kind : TfheOp → Bool) (op : TfheOp) (ops : List TfheOp) (first : Bool) → kind op ≡ first → count_by kind (op ∷ ops) ≡ length (op ∷ ops)
    → (count_by kind ops ≡ length ops → AllByRecursion (λ op. IsTrue (kind op)) ops) → AllByRecursion (λ op. IsTrue (kind op)) (op ∷ ops)
all_by_first kind op ops true is e others =
    let one : ◌≡◌ {A = ℕ} (cond (kind op) 1 0) 1 = ap (λ b. cond b 1 0) is in
    (is, others (omega (arith, e, count_first kind op ops, one)))
all_by_first kind op ops false is e others =
    let none : ◌≡◌ {A = ℕ} (cond (kind op) 1 0) 0 = ap (λ b. cond b 1 0) is in
    absurd (omega (arith, e, count_first kind op ops, none, count_by-le-length kind ops))

all_by_kind : (kind : TfheOp → Bool) (ops : List TfheOp) → count_by kind ops ≡ length ops → AllByRecursion (λ op. IsTrue (kind op)) ops
all_by_kind kind [] e = tt
all_by_kind kind (op ∷ ops) e = all_by_first kind op ops (kind op) refl e (all_by_kind kind ops)

count_of_all : (kind : TfheOp → Bool) (ops : List TfheOp) → AllByRecursion (λ op. IsTrue (kind op)) ops → count_by kind ops ≡ length ops
count_of_all kind [] all = refl
count_of_all kind (op ∷ ops) all =
    let one : ◌≡◌ {A = ℕ} (cond (kind op) 1 0) 1 = ap (λ b. cond b 1 0) all.0 in
    omega (arith, count_first kind op ops, one, count_of_all kind ops all.1)

-- ---- the rules

-- where an operation is a key switch, some operation is a bootstrap on it
abbrev pub HasBoot : List TfheOp → ℕ → TfheOp → Type 0
HasBoot all number op = is_switch op ≡ true → IsTrue (list_any (is_boot_on number) all)

pub rule_of : (all earlier : List TfheOp) (op : TfheOp) → IsTrue (keeps_alone earlier op) → HasBoot all (length earlier) op → KeepsRule all earlier op
rule_of all earlier (Input lo hi) e used =
    let count = count_by is_input earlier in
    let a = and_parts (eqb count (length earlier)) (is_number_range lo hi && ltb count 64) e in
    let b = and_parts (is_number_range lo hi) (ltb count 64) a.1 in
    let every : count ≡ length earlier = eqb-true count (length earlier) a.0 in
    record { first = All-from_recursion (λ op. IsTrue (is_input op)) earlier (all_by_kind is_input earlier every); range = range_rule lo hi b.0; few = omega (arith, every, ltb-true count 64 b.1) }
rule_of all earlier (Lin constant terms) e used =
    let count = count_by is_lin earlier in
    let a = and_parts (leb (unsigned_abs constant) (2 ^ 41)) (list_all (is_term earlier) terms && (are_rising 0 terms && ltb count 1088)) e in
    let b = and_parts (list_all (is_term earlier) terms) (are_rising 0 terms && ltb count 1088) a.1 in
    let c = and_parts (are_rising 0 terms) (ltb count 1088) b.1 in
    record { size = leb-true (unsigned_abs constant) (2 ^ 41) a.0; each = All-from_recursion (IsTerm earlier) terms (terms_rule earlier terms b.0); rising = rising_rule 0 terms c.0; few = ltb-true count 1088 c.1 }
rule_of all earlier (Switch source) e used =
    let count = count_by is_switch earlier in
    let range = range_on earlier source in
    let a = and_parts (stands is_big_node earlier source) (int_eq range.0 (pos 0) && ltb count 1024) e in
    let b = and_parts (int_eq range.0 (pos 0)) (ltb count 1024) a.1 in
    record { operand = stands_rule is_big_node earlier source a.0; starts = (Decides-int_eq range.0 (pos 0)).0 b.0; used = used refl; few = ltb-true count 1024 b.1 }
rule_of all earlier (Boot source entries) e used =
    let count = count_by is_boot earlier in
    let number = span_of (range_on earlier source) +ℤ pos 1 in
    let a = and_parts (stands is_switch earlier source) (int_eq (pos (length entries)) number && (list_all is_number entries && ltb count 1024)) e in
    let b = and_parts (int_eq (pos (length entries)) number) (list_all is_number entries && ltb count 1024) a.1 in
    let c = and_parts (list_all is_number entries) (ltb count 1024) b.1 in
    record { operand = stands_rule is_switch earlier source a.0; number = (Decides-int_eq (pos (length entries)) number).0 b.0; each = All-from_recursion IsNumber entries (numbers_rule entries c.0); few = ltb-true count 1024 c.1 }
rule_of all earlier (Out source lo hi) e used =
    let count = count_by is_out earlier in
    let range = range_on earlier source in
    let a = and_parts (stands is_big_node earlier source) (is_same_range (lo, hi) range && (is_number_range lo hi && ltb count 64)) e in
    let b = and_parts (is_same_range (lo, hi) range) (is_number_range lo hi && ltb count 64) a.1 in
    let c = and_parts (is_number_range lo hi) (ltb count 64) b.1 in
    record { operand = stands_rule is_big_node earlier source a.0; exact = pair_rule (lo, hi) range b.0; range = range_rule lo hi c.0; few = ltb-true count 64 c.1 }

pub test_of : (all earlier : List TfheOp) (op : TfheOp) → KeepsRule all earlier op → IsTrue (keeps_alone earlier op) × HasBoot all (length earlier) op
test_of all earlier (Input lo hi) is =
    let every : count_by is_input earlier ≡ length earlier = count_of_all is_input earlier (recursion_from_All (λ op. IsTrue (is_input op)) earlier is.first) in
    let few : count_by is_input earlier < 64 = omega (arith, every, is.few) in
    (rw (eq-eqb (count_by is_input earlier) (length earlier) every, range_test lo hi is.range, lt-ltb (count_by is_input earlier) 64 few) refl, λ switch. absurd cc)
test_of all earlier (Lin constant terms) is =
    (rw (le-leb (unsigned_abs constant) (2 ^ 41) is.size, terms_test earlier terms (recursion_from_All (IsTerm earlier) terms is.each), rising_test 0 terms is.rising, lt-ltb (count_by is_lin earlier) 1088 is.few) refl, λ switch. absurd cc)
test_of all earlier (Switch source) is =
    (rw (stands_test is_big_node earlier source is.operand, (Decides-int_eq (range_on earlier source).0 (pos 0)).1 is.starts, lt-ltb (count_by is_switch earlier) 1024 is.few) refl, λ switch. is.used)
test_of all earlier (Boot source entries) is =
    (rw (stands_test is_switch earlier source is.operand, (Decides-int_eq (pos (length entries)) (span_of (range_on earlier source) +ℤ pos 1)).1 is.number, numbers_test entries (recursion_from_All IsNumber entries is.each), lt-ltb (count_by is_boot earlier) 1024 is.few) refl, λ switch. absurd cc)
test_of all earlier (Out source lo hi) is =
    (rw (stands_test is_big_node earlier source is.operand, pair_test (lo, hi) (range_on earlier source) is.exact, range_test lo hi is.range, lt-ltb (count_by is_out earlier) 64 is.few) refl, λ switch. absurd cc)
