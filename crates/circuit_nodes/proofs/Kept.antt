-- A line that keeps its rule has numbers that the fields of an operation hold.
use Rattle.std.proofs.Common.{◌≡◌, ℕ, ◌+◌, ◌-◌, ◌<◌, ◌≤◌, ◌^◌, T, Bool, true, false, cond, ◌&&◌, eqb, leb, ltb, List, [], ◌∷◌, length, map, ℤ, pos, negsuc, neg_ℤ, ◌+ℤ◌, ◌≤ℤ◌, int_le, arith, sym, ap, refl, ◌∙◌, subst}
use Rattle.std.specs.Prelude.{IsTrue, not, unsigned_abs, count_by, int_lt}
use Rattle.std.specs.List.{list_all, AllByRecursion}
use Rattle.std.specs.Ordering.{int_eq}
use Rattle.std.proofs.lemmas.Bool.{and_parts, lt-ltb, le-leb}
use Rattle.circuit_lines.specs.declared.line.Line.{Line}
use Rattle.circuit_lines.specs.declared.line.Line.TheVariants.{Input as InputLine, Lin as LinLine, Switch as SwitchLine, Boot as BootLine, Out as OutLine}
use Rattle.forms.specs.Forms.{span_of}
use Rattle.tfhe_level.specs.declared.level.TfheOp.{TfheOp}
use Rattle.tfhe_level.specs.Operations.{is_input, is_switch, is_boot, is_out, is_leaf, is_big_node}
use Rattle.tfhe_level.specs.Rules.{range_on}
use Rattle.circuit_nodes.specs.Tests.{stands, is_number, is_number_range, is_same_range, keeps_alone}
use Rattle.circuit_nodes.specs.Lines.{op_of, is_numbered, are_natural, keeps_line}
use Rattle.circuit_nodes.proofs.Ranges.{stands_below, IsLeafTerm, lin_rule, lin_constant}
use Rattle.circuit_nodes.proofs.Pushing.{number_low, small_number, range_small, source_below}
use Rattle.circuit_nodes.specs.Fitting.{is_place, is_narrow, is_narrow_term, fits}

-- ---- numbers

pub narrow_by_size : (z : ℤ) (most : ℕ) → unsigned_abs z ≤ most → most ≤ 2 ^ 41 → is_narrow z ≡ true
narrow_by_size (pos n) most small few = rw (lt-ltb n (2 ^ 63) (omega (arith, small, few))) refl
narrow_by_size (negsuc n) most small few = rw (le-leb n (2 ^ 63 - 1) (omega (arith, small, few))) refl

place_fits : (z : ℤ) (n : ℕ) → int_le (pos 0) z ≡ true → unsigned_abs z < n → n ≤ 3264 → is_place z ≡ true
place_fits (pos m) n natural below few = rw (le-leb 0 m (omega arith), lt-ltb m (2 ^ 32) (omega (arith, below, few))) refl
place_fits (negsuc m) n natural below few = absurd cc

number_narrow : (z : ℤ) → IsTrue (is_number z) → is_narrow z ≡ true
number_narrow z e = let n = number_low z e in narrow_by_size z (2 ^ 16) (small_number z n.0 n.1) (omega arith)

range_narrow : (lo hi : ℤ) → IsTrue (is_number_range lo hi) → (is_narrow lo ≡ true) × (is_narrow hi ≡ true)
range_narrow lo hi e = let small = range_small lo hi e in (narrow_by_size lo (2 ^ 16) small.lo (omega arith), narrow_by_size hi (2 ^ 16) small.hi (omega arith))

both : (a b : Bool) → a ≡ true → b ≡ true → (a && b) ≡ true
both a b first second = rw (first, second) refl

-- ---- where the numbers fit, no operand is below 0

terms_natural : (terms : List (ℤ × ℤ)) → list_all is_narrow_term terms ≡ true → list_all (λ t. int_le (pos 0) t.0) terms ≡ true
terms_natural [] e = refl
terms_natural (t ∷ terms) e =
    let a = and_parts (is_narrow_term t) (list_all is_narrow_term terms) e in
    let place = (and_parts (is_place t.0) (is_narrow t.1) a.0).0 in
    both (int_le (pos 0) t.0) (list_all (λ t. int_le (pos 0) t.0) terms) (and_parts (int_le (pos 0) t.0) (int_lt t.0 (pos (2 ^ 32))) place).0 (terms_natural terms a.1)

place_natural : (z : ℤ) → is_place z ≡ true → int_le (pos 0) z ≡ true
place_natural z e = (and_parts (int_le (pos 0) z) (int_lt z (pos (2 ^ 32))) e).0

fit_natural : (line : Line) → fits line ≡ true → are_natural line ≡ true
fit_natural (InputLine number lo hi) e = refl
fit_natural (LinLine number constant terms) e = terms_natural terms (and_parts (is_narrow constant) (list_all is_narrow_term terms) e).1
fit_natural (SwitchLine number source) e = place_natural source e
fit_natural (BootLine number source entries) e = place_natural source (and_parts (is_place source) (list_all is_narrow entries) e).0
fit_natural (OutLine source lo hi) e = place_natural source (and_parts (is_place source) (is_narrow lo && is_narrow hi) e).0

-- ---- where a line keeps its rule, its numbers fit

terms_fit : (earlier : List TfheOp) (terms : List (ℤ × ℤ)) → length earlier ≤ 3264 → list_all (λ t. int_le (pos 0) t.0) terms ≡ true
    → AllByRecursion (IsLeafTerm earlier) (map (λ t. (unsigned_abs t.0, t.1)) terms) → list_all is_narrow_term terms ≡ true
terms_fit earlier [] few natural all = refl
terms_fit earlier (t ∷ terms) few natural all =
    let a = and_parts (int_le (pos 0) t.0) (list_all (λ t. int_le (pos 0) t.0) terms) natural in
    let place = place_fits t.0 (length earlier) a.0 (stands_below is_leaf earlier (unsigned_abs t.0) all.0.leaf) few in
    let weight = narrow_by_size t.1 (2 ^ 40) all.0.weight (omega arith) in
    both (is_narrow_term t) (list_all is_narrow_term terms) (both (is_place t.0) (is_narrow t.1) place weight) (terms_fit earlier terms few a.1 all.1)

entries_fit : (entries : List ℤ) → IsTrue (list_all is_number entries) → list_all is_narrow entries ≡ true
entries_fit [] e = refl
entries_fit (entry ∷ entries) e =
    let a = and_parts (is_number entry) (list_all is_number entries) e in
    both (is_narrow entry) (list_all is_narrow entries) (number_narrow entry a.0) (entries_fit entries a.1)

natural_fit : (earlier : List TfheOp) (line : Line) → length earlier ≤ 3264 → are_natural line ≡ true → keeps_alone earlier (op_of line) ≡ true → fits line ≡ true
natural_fit earlier (InputLine number lo hi) few natural e =
    let a = and_parts (eqb (count_by is_input earlier) (length earlier)) (is_number_range lo hi && ltb (count_by is_input earlier) 64) e in
    let n = range_narrow lo hi (and_parts (is_number_range lo hi) (ltb (count_by is_input earlier) 64) a.1).0 in
    both (is_narrow lo) (is_narrow hi) n.0 n.1
natural_fit earlier (LinLine number constant terms) few natural e =
    let made = map (λ t. (unsigned_abs t.0, t.1)) terms in
    both (is_narrow constant) (list_all is_narrow_term terms) (narrow_by_size constant (2 ^ 41) (lin_constant earlier constant made e) (omega arith)) (terms_fit earlier terms few natural (lin_rule earlier constant made e).each)
natural_fit earlier (SwitchLine number source) few natural e = place_fits source (length earlier) natural (source_below is_big_node earlier (unsigned_abs source) _ e) few
natural_fit earlier (BootLine number source entries) few natural e =
    let test = int_eq (pos (length entries)) (span_of (range_on earlier (unsigned_abs source)) +ℤ pos 1) in
    let a = and_parts (stands is_switch earlier (unsigned_abs source)) (test && (list_all is_number entries && ltb (count_by is_boot earlier) 1024)) e in
    let b = and_parts test (list_all is_number entries && ltb (count_by is_boot earlier) 1024) a.1 in
    both (is_place source) (list_all is_narrow entries) (place_fits source (length earlier) natural (source_below is_switch earlier (unsigned_abs source) _ e) few) (entries_fit entries (and_parts (list_all is_number entries) (ltb (count_by is_boot earlier) 1024) b.1).0)
natural_fit earlier (OutLine source lo hi) few natural e =
    let s = unsigned_abs source in
    let a = and_parts (stands is_big_node earlier s) (is_same_range (lo, hi) (range_on earlier s) && (is_number_range lo hi && ltb (count_by is_out earlier) 64)) e in
    let b = and_parts (is_same_range (lo, hi) (range_on earlier s)) (is_number_range lo hi && ltb (count_by is_out earlier) 64) a.1 in
    let n = range_narrow lo hi (and_parts (is_number_range lo hi) (ltb (count_by is_out earlier) 64) b.1).0 in
    both (is_place source) (is_narrow lo && is_narrow hi) (place_fits source (length earlier) natural (source_below is_big_node earlier s _ e) few) (both (is_narrow lo) (is_narrow hi) n.0 n.1)

same_and : (natural fit alone : Bool) → (fit ≡ true → natural ≡ true) → (natural ≡ true → alone ≡ true → fit ≡ true) → (natural && alone) ≡ (fit && alone)
same_and true true alone from to = refl
same_and true false true from to = absurd (let e = to refl refl in cc)
same_and true false false from to = refl
same_and false true alone from to = absurd (let e = from refl in cc)
same_and false false alone from to = refl

-- so its rule may be tested on an operation where they do
pub kept_by_fit : (earlier : List TfheOp) (line : Line) → length earlier ≤ 3264
    → keeps_line earlier line ≡ (is_numbered (length earlier) line && (fits line && keeps_alone earlier (op_of line)))
kept_by_fit earlier line few = ap (λ b. is_numbered (length earlier) line && b) (same_and (are_natural line) (fits line) (keeps_alone earlier (op_of line)) (fit_natural line) (natural_fit earlier line few))
