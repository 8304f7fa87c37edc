-- Going over the lines once finds the first line that breaks its rule.
use Rattle.std.proofs.Common.{◌≡◌, ◌≢◌, inl, inr, get_or, ℕ, zero, suc, ◌+◌, ◌<◌, ◌≤◌, ℤ, pos, negsuc, Bool, true, false, cond, ◌&&◌, ◌||◌, List, [], ◌∷◌, ◌++◌, length, map, take, arith, sym, ap, refl, ◌∙◌, subst, append_assoc, length-append}
use Rattle.std.specs.Prelude.{not, Some, None, Ok, Option, slice_set, int_le, int_lt, unsigned_abs}
use Rattle.std.specs.List.{list_any, slice_index_or}
use Rattle.std.specs.Ordering.{int_eq}
use Rattle.std.proofs.lemmas.Bool.{lt-ltb, le-ltb, le-leb, cases_lt, cases_eq}
use Rattle.std.proofs.lemmas.Bool.Decides.{Decides-int_eq}
use Rattle.std.proofs.lemmas.Grind.{get_or-set_at}
use Rattle.std.proofs.lemmas.List.{append-nil, length-set, length-replicate, get_or-replicate, get_or-set_other}
use Rattle.circuit_lines.specs.declared.line.Line.{Line}
use Rattle.circuit_lines.specs.declared.line.Line.TheVariants.{Input as InputLine, Lin as LinLine, Switch as SwitchLine, Boot as BootLine, Out as OutLine}
use Rattle.tfhe_level.specs.declared.level.TfheOp.{TfheOp}
use Rattle.tfhe_level.specs.Operations.{is_switch}
use Rattle.refusals.specs.Steps.{one_value}
use Rattle.circuit_lines.specs.Numbers.{Read}
use Rattle.circuit_nodes.specs.Lines.{op_of, keeps_line, names, is_used, keeps_its_rule, kept_from, kept_count}
use Rattle.circuit_nodes.specs.Walk.{Walk, start, with_name, step, walk_from, used_from, most_operations}

-- ---- the operations

-- the operations of the lines in front that keep their rules as far as those before them tell
abbrev pub alone_from : List TfheOp → List Line → List TfheOp
alone_from earlier [] = []
alone_from earlier (line ∷ lines) =
    cond (keeps_line earlier line) (op_of line ∷ alone_from (earlier ++ op_of line ∷ []) lines) []

-- as used_from, where a function tells what is named
abbrev pub used_by : (ℕ → Bool) → ℕ → List TfheOp → ℕ
used_by used number [] = 0
used_by used number (op ∷ operations) = cond (is_switch op && not (used number)) 0 (suc (used_by used (number + 1) operations))

by_kind : (lines : List Line) (number : ℕ) (switch used : Bool) (a b : ℕ) → a ≡ b
    → cond (cond switch used true) (suc a) 0 ≡ cond (switch && not used) 0 (suc b)
by_kind lines number true true a b later = ap (λ n. suc n) later
by_kind lines number true false a b later = refl
by_kind lines number false used a b later = ap (λ n. suc n) later

by_rule : (lines : List Line) (earlier : List TfheOp) (line : Line) (others : List Line) (alone : Bool)
    → kept_from lines (earlier ++ op_of line ∷ []) others ≡ used_by (λ n. list_any (names n) lines) (length earlier + 1) (alone_from (earlier ++ op_of line ∷ []) others)
    → cond (alone && is_used lines (length earlier) (op_of line)) (suc (kept_from lines (earlier ++ op_of line ∷ []) others)) 0
    ≡ used_by (λ n. list_any (names n) lines) (length earlier) (cond alone (op_of line ∷ alone_from (earlier ++ op_of line ∷ []) others) [])
by_rule lines earlier line others false later = refl
by_rule lines earlier line others true later = by_kind lines (length earlier) (is_switch (op_of line)) (list_any (names (length earlier)) lines) _ _ later

pub kept_is_used : (lines : List Line) (earlier : List TfheOp) (others : List Line)
    → kept_from lines earlier others ≡ used_by (λ n. list_any (names n) lines) (length earlier) (alone_from earlier others)
kept_is_used lines earlier [] = refl
kept_is_used lines earlier (line ∷ others) =
    let count : length (earlier ++ op_of line ∷ []) ≡ length earlier + 1 = length-append earlier (op_of line ∷ []) in
    by_rule lines earlier line others (keeps_line earlier line) (kept_is_used lines (earlier ++ op_of line ∷ []) others ∙ ap (λ n. used_by (λ m. list_any (names m) lines) n (alone_from (earlier ++ op_of line ∷ []) others)) count)

-- ---- the walk

broken_step : (w : Walk) (line : Line) (broken : Bool) → broken ≡ true
    → (cond (not broken && keeps_line w.operations line) (w.operations ++ op_of line ∷ []) w.operations ≡ w.operations) × ((broken || not (keeps_line w.operations line)) ≡ true)
broken_step w line true is = (refl, refl)
broken_step w line false is = absurd cc

walk_broken : (w : Walk) (lines : List Line) → w.broken ≡ true → ((walk_from w lines).operations ≡ w.operations) × ((walk_from w lines).broken ≡ true)
walk_broken w [] broken = (refl, broken)
walk_broken w (line ∷ lines) broken =
    let next : ((step w line).operations ≡ w.operations) × ((step w line).broken ≡ true) = broken_step w line w.broken broken in
    let later = walk_broken (step w line) lines next.1 in
    (later.0 ∙ next.0, later.1)

-- what a walk from the start of some lines knows of their operations
pub record Knows (earlier : List TfheOp) (lines : List Line) (w : Walk) : Type 0 where
  pub operations : w.operations ≡ earlier ++ alone_from earlier lines
  pub whole : w.broken ≡ false → length (alone_from earlier lines) ≡ length lines
  pub part : w.broken ≡ true → length (alone_from earlier lines) < length lines

walk_by_rule : (w : Walk) (line : Line) (lines : List Line) (alone : Bool) → keeps_line w.operations line ≡ alone → w.broken ≡ false
    → ((step w line).broken ≡ false → Knows (step w line).operations lines (walk_from (step w line) lines))
    → Knows w.operations (line ∷ lines) (walk_from (step w line) lines)
walk_by_rule w line lines true is whole others =
    let more = w.operations ++ op_of line ∷ [] in
    let operations : (step w line).operations ≡ more = rw (whole, is) refl in
    let still : (step w line).broken ≡ false = rw (whole, is) refl in
    let later = others still in
    let same : (walk_from (step w line) lines).operations ≡ more ++ alone_from more lines = later.operations ∙ ap (λ ops. ops ++ alone_from ops lines) operations in
    let front : alone_from w.operations (line ∷ lines) ≡ op_of line ∷ alone_from more lines = rw is refl in
    let count : length (alone_from (step w line).operations lines) ≡ length (alone_from more lines) = ap (λ ops. length (alone_from ops lines)) operations in
    record {
      operations = same ∙ append_assoc w.operations (op_of line ∷ []) (alone_from more lines) ∙ ap (λ ops. w.operations ++ ops) (sym front);
      whole = λ all. ap length front ∙ ap (λ n. suc n) (sym count ∙ later.whole all);
      part = λ broken. omega (arith, ap length front, count, later.part broken);
    }
walk_by_rule w line lines false is whole others =
    let operations : (step w line).operations ≡ w.operations = rw (whole, is) refl in
    let broken : (step w line).broken ≡ true = rw (whole, is) refl in
    let later = walk_broken (step w line) lines broken in
    let none : alone_from w.operations (line ∷ lines) ≡ [] = rw is refl in
    record {
      operations = later.0 ∙ operations ∙ sym (append-nil w.operations) ∙ ap (λ ops. w.operations ++ ops) (sym none);
      whole = λ all. absurd (let e : true ≡ false = sym later.1 ∙ all in cc);
      part = λ _. omega (arith, ap length none);
    }

pub walk_knows : (w : Walk) (lines : List Line) → w.broken ≡ false → Knows w.operations lines (walk_from w lines)
walk_knows w [] whole = record { operations = sym (append-nil w.operations); whole = λ _. refl; part = λ broken. absurd (let e : false ≡ true = sym whole ∙ broken in cc) }
walk_knows w (line ∷ lines) whole = walk_by_rule w line lines (keeps_line w.operations line) refl whole (λ still. walk_knows (step w line) lines still)

-- ---- the names

length_set_if : (test : Bool) (named : List Bool) (at : ℕ) → length (cond test (slice_set named at true) named) ≡ length named
length_set_if true named at = length-set named at true
length_set_if false named at = refl

length_named : (named : List Bool) (line : Line) → length (with_name named line) ≡ length named
length_named named (InputLine number lo hi) = refl
length_named named (LinLine number constant terms) = refl
length_named named (SwitchLine number source) = refl
length_named named (BootLine number source entries) = length_set_if (int_le (pos 0) source && int_lt source (pos (length named))) named (unsigned_abs source)
length_named named (OutLine source lo hi) = refl

pub walk_named_length : (w : Walk) (lines : List Line) → length (walk_from w lines).named ≡ length w.named
walk_named_length w [] = refl
walk_named_length w (line ∷ lines) = walk_named_length (step w line) lines ∙ length_named w.named line

pub or_false : (b : Bool) → (b || false) ≡ b
or_false true = refl
or_false false = refl

-- a line's name is set where it is below the length
pub or_true : (b : Bool) → (b || true) ≡ true
or_true true = refl
or_true false = refl

other_test : (test : Bool) (m n : ℕ) → (test ≡ true → pos m ≡ pos n) → n ≢ m → test ≡ false
other_test true m n same other = absurd (other (let e = same refl in cc))
other_test false m n same other = refl

not_same : (m n : ℕ) → n ≢ m → int_eq (pos m) (pos n) ≡ false
not_same m n other = other_test (int_eq (pos m) (pos n)) m n (Decides-int_eq (pos m) (pos n)).0 other

boot_name : (named : List Bool) (source : ℤ) (n : ℕ) → n < length named
    → slice_index_or (cond (int_le (pos 0) source && int_lt source (pos (length named))) (slice_set named (unsigned_abs source) true) named) n false ≡ (slice_index_or named n false || int_eq source (pos n))
boot_name named (pos m) n within =
    elim (cases_lt m (length named)) [
      | inl lt ↦
          elim (cases_eq n m) [
            | inl same ↦ rw (le-leb 0 m (omega arith), lt-ltb m (length named) lt) (get_or-set_at named m n true false same lt ∙ sym (ap (λ b. get_or named n false || b) ((Decides-int_eq (pos m) (pos n)).1 (ap (λ k. pos k) (sym same))) ∙ or_true (get_or named n false)))
            | inr other ↦ rw (le-leb 0 m (omega arith), lt-ltb m (length named) lt) (get_or-set_other named m n true false other ∙ sym (ap (λ b. get_or named n false || b) (not_same m n other) ∙ or_false (get_or named n false)))
          ]
      | inr ge ↦
          let far : n ≢ m = λ same. absurd (omega (arith, same, ge, within)) in
          rw (le-leb 0 m (omega arith), le-ltb m (length named) ge) (sym (ap (λ b. get_or named n false || b) (not_same m n far) ∙ or_false (get_or named n false)))
    ]
boot_name named (negsuc m) n within = sym (or_false (slice_index_or named n false))

one_name : (named : List Bool) (line : Line) (n : ℕ) → n < length named → slice_index_or (with_name named line) n false ≡ (slice_index_or named n false || names n line)
one_name named (InputLine number lo hi) n within = sym (or_false (slice_index_or named n false))
one_name named (LinLine number constant terms) n within = sym (or_false (slice_index_or named n false))
one_name named (SwitchLine number source) n within = sym (or_false (slice_index_or named n false))
one_name named (BootLine number source entries) n within = boot_name named source n within
one_name named (OutLine source lo hi) n within = sym (or_false (slice_index_or named n false))

or_assoc : (a b c : Bool) → ((a || b) || c) ≡ (a || (b || c))
or_assoc true b c = refl
or_assoc false b c = refl

names_known : (w : Walk) (lines : List Line) (n : ℕ) → n < length w.named → slice_index_or (walk_from w lines).named n false ≡ (slice_index_or w.named n false || list_any (names n) lines)
names_known w [] n within = sym (or_false (slice_index_or w.named n false))
names_known w (line ∷ lines) n within =
    let next : n < length (step w line).named = omega (arith, within, length_named w.named line) in
    names_known (step w line) lines n next ∙ ap (λ b. b || list_any (names n) lines) (one_name w.named line n within) ∙ or_assoc (slice_index_or w.named n false) (names n line) (list_any (names n) lines)

-- ---- the whole

same_used : (named : List Bool) (used : ℕ → Bool) (number : ℕ) (operations : List TfheOp)
    → ((n : ℕ) → n < number + length operations → slice_index_or named n false ≡ used n)
    → used_from named number operations ≡ used_by used number operations
same_used named used number [] same = refl
same_used named used number (op ∷ operations) same =
    let here : slice_index_or named number false ≡ used number = same number (omega arith) in
    let later = same_used named used (number + 1) operations (λ n within. same n (omega (arith, within))) in
    rw (here, later) refl

pub walk_finds : (lines : List Line) → length (walk_from start lines).operations ≤ most_operations
    → used_from (walk_from start lines).named 0 (walk_from start lines).operations ≡ kept_count lines
walk_finds lines few =
    let w = walk_from start lines in
    let known = walk_knows start lines refl in
    let long : length start.named ≡ most_operations = length-replicate most_operations false in
    let named : (n : ℕ) → n < 0 + length w.operations → slice_index_or w.named n false ≡ list_any (names n) lines =
    λ n within.
    let below : n < most_operations = omega (arith, within, few) in
    names_known start lines n (omega (arith, below, long)) ∙ ap (λ b. b || list_any (names n) lines) (get_or-replicate most_operations n false false below) in
    same_used w.named (λ n. list_any (names n) lines) 0 w.operations named
    ∙ ap (λ ops. used_by (λ n. list_any (names n) lines) 0 ops) known.operations
    ∙ sym (kept_is_used lines [] lines)

-- ---- a line more

made_op : (test : Bool) (made op : TfheOp) (ops : List TfheOp) → cond test (Some made) None ≡ Some op → (cond test (ops ++ made ∷ []) ops ≡ ops ++ op ∷ []) × (not test ≡ false)
made_op true made op ops e = (let same : made ≡ op = (let e = e in cc) in ap (λ o. ops ++ o ∷ []) same, refl)
made_op false made op ops e = absurd (let e = e in cc)

abbrev read_op : Option TfheOp → Read (Option TfheOp)
read_op op = Ok op

abbrev read_ops : List TfheOp → Read (List TfheOp)
read_ops ops = Ok ops

step_parts : (operations more : List TfheOp) (broken : Bool) (named marked : List Bool) (line : Line) → broken ≡ false → marked ≡ with_name named line
    → cond (keeps_line operations line) (operations ++ op_of line ∷ []) operations ≡ more → not (keeps_line operations line) ≡ false
    → step (record { operations = operations; broken = broken; named = named }) line ≡ record { operations = more; broken = broken; named = marked }
step_parts operations more broken named marked line whole marks first second = rw (whole, marks, second) (ap (λ ops. record { operations = ops; broken = false; named = with_name named line }) first)

-- a line that keeps its rule is taken with its operation
pub take_kept : (w : Walk) (operations more : List TfheOp) (broken : Bool) (named marked : List Bool) (line : Line) (op : TfheOp) → record { operations = operations; broken = broken; named = named } ≡ w → broken ≡ false → marked ≡ with_name named line
    → read_op (cond (keeps_line operations line) (Some (op_of line)) None) ≡ read_op (Some op) → read_ops (operations ++ op ∷ []) ≡ read_ops more
    → step w line ≡ record { operations = more; broken = broken; named = marked }
take_kept w operations more broken named marked line op is whole marks next pushed =
    let made : cond (keeps_line operations line) (Some (op_of line)) None ≡ Some op = one_value (cond (keeps_line operations line) (Some (op_of line)) None) (read_op (Some op)) next in
    let kept = made_op (keeps_line operations line) (op_of line) op operations made in
    let all : operations ++ op ∷ [] ≡ more = one_value (operations ++ op ∷ []) (read_ops more) pushed in
    ap (λ v. step v line) (sym is) ∙ step_parts operations more broken named marked line whole marks (kept.0 ∙ all) kept.1
