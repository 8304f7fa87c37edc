-- What one walk over the lines finds is what the rules ask of all of them.
use Rattle.std.proofs.Common.{◌≡◌, ℕ, zero, suc, ◌+◌, ◌<◌, ◌≤◌, Bool, true, false, cond, ◌&&◌, ◌||◌, eqb, ltb, Option, List, [], ◌∷◌, ◌++◌, length, map, All, ℤ, pos, negsuc, int_le, arith, sym, ap, refl, ◌∙◌, subst, length-append}
use Rattle.std.specs.Prelude.{Some, None, IsTrue, not, unsigned_abs}
use Rattle.std.specs.List.{list_any, slice_index_or, AllByRecursion}
use Rattle.std.specs.Ordering.{int_eq}
use Rattle.std.proofs.lemmas.Bool.{and_parts, ltb-true, ltb-false, lt-ltb, le-ltb, eqb-true, eq-eqb}
use Rattle.std.proofs.lemmas.Bool.Decides.{Decides-int_eq}
use Rattle.std.proofs.lemmas.List.Elements.{recursion_from_All, All-from_recursion}
use Rattle.circuit_lines.specs.declared.line.Line.{Line}
use Rattle.circuit_lines.specs.declared.line.Line.TheVariants.{Input as InputLine, Lin as LinLine, Switch as SwitchLine, Boot as BootLine, Out as OutLine}
use Rattle.tfhe_level.specs.declared.level.TfheOp.{TfheOp}
use Rattle.tfhe_level.specs.Operations.{is_switch}
use Rattle.tfhe_level.specs.Rules.{is_boot_on, KeepRules}
use Rattle.circuit_nodes.specs.Tests.{keeps_alone}
use Rattle.circuit_nodes.specs.Lines.{op_of, is_numbered, are_natural, keeps_line, names, is_used, keeps_its_rule, kept_from, kept_count, broken_line}
use Rattle.circuit_nodes.specs.Walk.{Walk, start, walk_from, used_from, broken_place, most_operations}
use Rattle.circuit_nodes.specs.Laws.{AreNumbered}
use Rattle.circuit_nodes.proofs.Rules.{HasBoot, rule_of, test_of}
use Rattle.circuit_nodes.proofs.Walking.{alone_from, used_by, Knows, walk_knows, kept_is_used, walk_finds, or_true}

-- ---- how many

most_or_none : (test : Bool) (a n : ℕ) → a ≤ n → cond test 0 (suc a) ≤ suc n
most_or_none true a n le = omega arith
most_or_none false a n le = omega (arith, le)

used_most : (named : List Bool) (number : ℕ) (ops : List TfheOp) → used_from named number ops ≤ length ops
used_most named number [] = omega arith
used_most named number (op ∷ ops) = most_or_none (is_switch op && not (slice_index_or named number false)) (used_from named (number + 1) ops) (length ops) (used_most named (number + 1) ops)

used_by_most : (used : ℕ → Bool) (number : ℕ) (ops : List TfheOp) → used_by used number ops ≤ length ops
used_by_most used number [] = omega arith
used_by_most used number (op ∷ ops) = most_or_none (is_switch op && not (used number)) (used_by used (number + 1) ops) (length ops) (used_by_most used (number + 1) ops)

front_most : (test : Bool) (op : TfheOp) (ops : List TfheOp) (n : ℕ) → length ops ≤ n → length (cond test (op ∷ ops) []) ≤ suc n
front_most true op ops n le = omega (arith, le)
front_most false op ops n le = omega arith

alone_most : (earlier : List TfheOp) (lines : List Line) → length (alone_from earlier lines) ≤ length lines
alone_most earlier [] = omega arith
alone_most earlier (line ∷ lines) = front_most (keeps_line earlier line) (op_of line) (alone_from (earlier ++ op_of line ∷ []) lines) (length lines) (alone_most (earlier ++ op_of line ∷ []) lines)

front_map : (test : Bool) (op : TfheOp) (ops mapped : List TfheOp) (n : ℕ) → length (cond test (op ∷ ops) []) ≡ suc n → (length ops ≡ n → ops ≡ mapped) → cond test (op ∷ ops) [] ≡ op ∷ mapped
front_map true op ops mapped n e others = ap (λ xs. op ∷ xs) (others (omega (arith, e)))
front_map false op ops mapped n e others = absurd (omega (arith, e))

alone_map : (earlier : List TfheOp) (lines : List Line) → length (alone_from earlier lines) ≡ length lines → alone_from earlier lines ≡ map op_of lines
alone_map earlier [] e = refl
alone_map earlier (line ∷ lines) e = front_map (keeps_line earlier line) (op_of line) (alone_from (earlier ++ op_of line ∷ []) lines) (map op_of lines) (length lines) e (alone_map (earlier ++ op_of line ∷ []) lines)

-- ---- what is found

or_false : (b : Bool) → (b || false) ≡ b
or_false true = refl
or_false false = refl

found_by : (w : Walk) (lines : List Line) (broken : Bool) → w.broken ≡ broken → Knows [] lines w → used_from w.named 0 w.operations ≡ kept_count lines → broken_place w ≡ broken_line lines
found_by w lines false is known same =
    let all : length w.operations ≡ length lines = ap length known.operations ∙ known.whole is in
    rw (same, all, is) (ap (λ b. cond b (Some (kept_count lines)) None) (or_false (ltb (kept_count lines) (length lines))))
found_by w lines true is known same =
    let part : length w.operations < length lines = omega (arith, ap length known.operations, known.part is) in
    let below : kept_count lines < length lines = omega (arith, sym same, used_most w.named 0 w.operations, part) in
    rw (same, is, lt-ltb (kept_count lines) (length lines) below) (ap (λ b. cond b (Some (kept_count lines)) None) (or_true (ltb (kept_count lines) (length w.operations))))

pub found : (lines : List Line) → length (walk_from start lines).operations ≤ most_operations → broken_place (walk_from start lines) ≡ broken_line lines
found lines few = found_by (walk_from start lines) lines (walk_from start lines).broken refl (walk_knows start lines refl) (walk_finds lines few)

none_test : (test : Bool) (n : ℕ) → cond test (Some n) None ≡ None → test ≡ false
none_test true n e = absurd (let e = e in cc)
none_test false n e = refl

-- where no line breaks its rule, all are kept
all_kept : (lines : List Line) → broken_line lines ≡ None → kept_count lines ≡ length lines
all_kept lines none =
    let most : length lines ≤ kept_count lines = ltb-false (kept_count lines) (length lines) (none_test (ltb (kept_count lines) (length lines)) (kept_count lines) none) in
    omega (arith, most, kept_is_used lines [] lines, used_by_most (λ n. list_any (names n) lines) 0 (alone_from [] lines), alone_most [] lines)

pub operations : (lines : List Line) → broken_line lines ≡ None → (walk_from start lines).operations ≡ map op_of lines
operations lines none =
    let known = walk_knows start lines refl in
    let all : length (alone_from [] lines) ≡ length lines = omega (arith, all_kept lines none, kept_is_used lines [] lines, used_by_most (λ n. list_any (names n) lines) 0 (alone_from [] lines), alone_most [] lines) in
    known.operations ∙ alone_map [] lines all

-- ---- the rules

-- a bootstrap that is named is there, and where no operand is below 0 the other way round
boot_named : (n : ℕ) (line : Line) → IsTrue (names n line) → IsTrue (is_boot_on n (op_of line))
boot_named n (InputLine number lo hi) e = absurd cc
boot_named n (LinLine number constant terms) e = absurd cc
boot_named n (SwitchLine number source) e = absurd cc
boot_named n (BootLine number source entries) e = let same : source ≡ pos n = (Decides-int_eq source (pos n)).0 e in eq-eqb (unsigned_abs source) n (ap (λ z. unsigned_abs z) same)
boot_named n (OutLine source lo hi) e = absurd cc

same_natural : (source : ℤ) (n : ℕ) → int_le (pos 0) source ≡ true → unsigned_abs source ≡ n → source ≡ pos n
same_natural (pos m) n natural same = ap (λ k. pos k) same
same_natural (negsuc m) n natural same = absurd (let e = natural in cc)

name_of_boot : (n : ℕ) (line : Line) → IsTrue (are_natural line) → IsTrue (is_boot_on n (op_of line)) → IsTrue (names n line)
name_of_boot n (InputLine number lo hi) natural e = absurd cc
name_of_boot n (LinLine number constant terms) natural e = absurd cc
name_of_boot n (SwitchLine number source) natural e = absurd cc
name_of_boot n (BootLine number source entries) natural e = (Decides-int_eq source (pos n)).1 (same_natural source n natural (eqb-true (unsigned_abs source) n e))
name_of_boot n (OutLine source lo hi) natural e = absurd cc

either : (a b c d : Bool) → (a ≡ true → c ≡ true) → (b ≡ true → d ≡ true) → (a || b) ≡ true → (c || d) ≡ true
either true b c d first second e = rw (first refl) refl
either false b c d first second e = rw (second e) (or_true c)

any_boot : (n : ℕ) (lines : List Line) → IsTrue (list_any (names n) lines) → IsTrue (list_any (is_boot_on n) (map op_of lines))
any_boot n [] e = absurd cc
any_boot n (line ∷ lines) e = either (names n line) (list_any (names n) lines) (is_boot_on n (op_of line)) (list_any (is_boot_on n) (map op_of lines)) (boot_named n line) (any_boot n lines) e

any_name : (n : ℕ) (lines : List Line) → AllByRecursion (λ line. IsTrue (are_natural line)) lines → IsTrue (list_any (is_boot_on n) (map op_of lines)) → IsTrue (list_any (names n) lines)
any_name n [] natural e = absurd cc
any_name n (line ∷ lines) natural e = either (is_boot_on n (op_of line)) (list_any (is_boot_on n) (map op_of lines)) (names n line) (list_any (names n) lines) (name_of_boot n line natural.0) (any_name n lines natural.1) e

-- a line that is kept, and those after it
kept_parts : (test : Bool) (k n : ℕ) → cond test (suc k) 0 ≡ suc n → (test ≡ true) × (k ≡ n)
kept_parts true k n e = (refl, omega (arith, e))
kept_parts false k n e = absurd (omega (arith, e))

used_part : (switch named : Bool) → cond switch named true ≡ true → switch ≡ true → named ≡ true
used_part true named e is = e
used_part false named e is = absurd (let e = is in cc)

kept_rules : (lines : List Line) (earlier : List TfheOp) (others : List Line) → kept_from lines earlier others ≡ length others
    → KeepRules (map op_of lines) earlier (map op_of others) × AreNumbered (length earlier) others
kept_rules lines earlier [] e = (tt, tt)
kept_rules lines earlier (line ∷ others) e =
    let op = op_of line in
    let parts = kept_parts (keeps_its_rule lines earlier line) (kept_from lines (earlier ++ op ∷ []) others) (length others) e in
    let whole = and_parts (keeps_line earlier line) (is_used lines (length earlier) op) parts.0 in
    let own = and_parts (is_numbered (length earlier) line) (are_natural line && keeps_alone earlier op) whole.0 in
    let alone = (and_parts (are_natural line) (keeps_alone earlier op) own.1).1 in
    let boot : HasBoot (map op_of lines) (length earlier) op = λ switch. any_boot (length earlier) lines (used_part (is_switch op) (list_any (names (length earlier)) lines) whole.1 switch) in
    let later = kept_rules lines (earlier ++ op ∷ []) others parts.1 in
    ((rule_of (map op_of lines) earlier op alone boot, later.0), (own.0, subst (λ n. AreNumbered n others) (length-append earlier (op ∷ [])) later.1))

pub rules : (lines : List Line) → broken_line lines ≡ None → KeepRules (map op_of lines) [] (map op_of lines)
rules lines none = (kept_rules lines [] lines (all_kept lines none)).0

pub numbers : (lines : List Line) → broken_line lines ≡ None → AreNumbered 0 lines
numbers lines none = (kept_rules lines [] lines (all_kept lines none)).1

kept_natural : (lines : List Line) (earlier : List TfheOp) (others : List Line) → kept_from lines earlier others ≡ length others → AllByRecursion (λ line. IsTrue (are_natural line)) others
kept_natural lines earlier [] e = tt
kept_natural lines earlier (line ∷ others) e =
    let op = op_of line in
    let parts = kept_parts (keeps_its_rule lines earlier line) (kept_from lines (earlier ++ op ∷ []) others) (length others) e in
    let whole = (and_parts (keeps_line earlier line) (is_used lines (length earlier) op) parts.0).0 in
    let own = (and_parts (is_numbered (length earlier) line) (are_natural line && keeps_alone earlier op) whole).1 in
    ((and_parts (are_natural line) (keeps_alone earlier op) own).0, kept_natural lines (earlier ++ op ∷ []) others parts.1)

pub natural : (lines : List Line) → broken_line lines ≡ None → All (λ line. IsTrue (are_natural line)) lines
natural lines none = All-from_recursion (λ line. IsTrue (are_natural line)) lines (kept_natural lines [] lines (all_kept lines none))

used_test : (switch named : Bool) → (switch ≡ true → named ≡ true) → cond switch named true ≡ true
used_test true named is = is refl
used_test false named is = refl

rules_kept : (lines : List Line) → AllByRecursion (λ line. IsTrue (are_natural line)) lines → (earlier : List TfheOp) (others : List Line) → AreNumbered (length earlier) others → AllByRecursion (λ line. IsTrue (are_natural line)) others
    → KeepRules (map op_of lines) earlier (map op_of others) → kept_from lines earlier others ≡ length others
rules_kept lines all earlier [] numbered natural keep = refl
rules_kept lines all earlier (line ∷ others) numbered natural keep =
    let op = op_of line in
    let test = test_of (map op_of lines) earlier op keep.0 in
    let used : is_used lines (length earlier) op ≡ true = used_test (is_switch op) (list_any (names (length earlier)) lines) (λ switch. any_name (length earlier) lines all (test.1 switch)) in
    let later = rules_kept lines all (earlier ++ op ∷ []) others (subst (λ n. AreNumbered n others) (sym (length-append earlier (op ∷ []))) numbered.1) natural.1 keep.1 in
    let own : keeps_line earlier line ≡ true = rw (numbered.0, natural.0, test.0) refl in
    rw (own, used) (ap (λ n. suc n) later)

pub kept : (lines : List Line) → AreNumbered 0 lines → All (λ line. IsTrue (are_natural line)) lines → KeepRules (map op_of lines) [] (map op_of lines) → broken_line lines ≡ None
kept lines numbered natural keep =
    let each = recursion_from_All (λ line. IsTrue (are_natural line)) lines natural in
    let all : kept_count lines ≡ length lines = rules_kept lines each [] lines numbered each keep in
    rw (le-ltb (kept_count lines) (length lines) (omega (arith, all))) refl
