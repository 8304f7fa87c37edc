-- The entries of a pattern: how many there are, and which numbers they are.
use Rattle.std.proofs.Common.{◌≡◌, ℕ, ◌+◌, ◌-◌, ◌≤◌, ◌==◌, ◌^◌, true, List, [], ◌∷◌, length, take, drop, All, refl, arith}
use Rattle.std.specs.Prelude.{ℤ, pos, ◌+ℤ◌, ◌<ℤ◌, ◌≤ℤ◌, int_le, unsigned_abs, replicate}
use Rattle.std.proofs.Math.Pow.{pow_mono}
use Rattle.std.proofs.lemmas.Int.{ints, fold-int_max_bounds, fold-int_min_bounds}
use Rattle.std.proofs.lemmas.Bool.{false≢true, eqb-true}
use Rattle.std.proofs.lemmas.List.{length-take-le, length-drop, length-replicate}
use Rattle.std.proofs.lemmas.List.Elements.{All-cons}
use Rattle.forms.specs.Forms.{span_of, IsIn}
use Rattle.forms.specs.Ranges.{range_of_entries, IsNumber}
use Rattle.fhe_text.specs.declared.source.WrittenType.{WrittenType}
use Rattle.fhe_text.specs.declared.source.WrittenType.TheVariants as types
use Rattle.fhe_text.specs.declared.source.Entries.TheVariants as tables
use Rattle.fhe_level.specs.declared.level.FheOp.{FheOp}
use Rattle.fhe_level.specs.declared.level.FheOp.TheVariants as ops
use Rattle.fhe_level.specs.Limits.{width_of}
use Rattle.fhe_level.specs.Rows.{is_eint, tensor_length}
use Rattle.fhe_level.specs.Operations.{type_of}
use Rattle.fhe_level.specs.Clearing.{HasEntries}
use Rattle.fhe_level.specs.Standing.{both}
use Rattle.pattern_walk.specs.Sums.{table_of}
use Rattle.pattern_walk.specs.Looking.{entries_from}
use Rattle.pattern_walk.specs.Walking.{is_in_type}
use Rattle.pattern_walk.specs.Safe.{IsRangeOf16}
use Rattle.pattern_walk.specs.Passing.{holds_le}

-- ---- which numbers they are

-- each entry lies in the range of all
pub entries_in : (entries : List ℤ) → All (IsIn (range_of_entries entries)) entries
entries_in [] = λ k d within. absurd (omega arith)
entries_in (entry ∷ entries) =
    let least = fold-int_min_bounds entry entries _ refl in
    let most = fold-int_max_bounds entry entries _ refl in
    All-cons (IsIn (range_of_entries (entry ∷ entries))) entry entries
    (record { least = least.0; most = most.0 })
    (λ k d within. record { least = least.1 k d within; most = most.1 k d within })

-- entries whose range has 16 bits
pub entries_numbers : (entries : List ℤ) → IsRangeOf16 (range_of_entries entries) → All IsNumber entries
entries_numbers entries range k d within =
    let inside = entries_in entries k d within in
    let least = inside.least in let most = inside.most in
    let low = range.low in let high = range.high in
    record { low = omega (arith, ints, low, least); high = omega (arith, ints, high, most) }

-- ---- how many there are

replicate_count : (z : ℤ) (range : ℤ × ℤ) → range.0 ≤ℤ range.1
    → pos (length (replicate (unsigned_abs (span_of range) + 1) z)) ≡ span_of range +ℤ pos 1
replicate_count z range rising =
    let many = length-replicate (unsigned_abs (span_of range) + 1) z in omega (arith, ints, many, rising)

part_fits : (range : ℤ × ℤ) (many left : ℕ) → pos 0 ≤ℤ range.0 → range.0 ≤ℤ range.1 → range.1 <ℤ pos many
    → left ≡ many - unsigned_abs range.0 → unsigned_abs (span_of range) + 1 ≤ left
part_fits range many left low rising below is = omega (arith, ints, low, rising, below, is)

part_count : (numbers : List ℤ) (range : ℤ × ℤ) → pos 0 ≤ℤ range.0 → range.0 ≤ℤ range.1 → range.1 <ℤ pos (length numbers)
    → pos (length (take (unsigned_abs (span_of range) + 1) (drop (unsigned_abs range.0) numbers))) ≡ span_of range +ℤ pos 1
part_count numbers range low rising below =
    let left = length-drop (unsigned_abs range.0) numbers in
    let fits = part_fits range (length numbers) (length (drop (unsigned_abs range.0) numbers)) low rising below left in
    let many = length-take-le (unsigned_abs (span_of range) + 1) (drop (unsigned_abs range.0) numbers) fits in
    omega (arith, ints, many, rising)

-- from the least to the greatest number of a range that lies in the index's type
pub entries_count : (index : WrittenType) (op : FheOp) (range : ℤ × ℤ) → is_eint index ≡ true
    → (tensor_length (type_of op) == 2 ^ width_of index) ≡ true → HasEntries op → is_in_type index range ≡ true
    → range.0 ≤ℤ range.1
    → pos (length (entries_from (table_of op) (unsigned_abs range.0) (unsigned_abs (span_of range) + 1)))
    ≡ span_of range +ℤ pos 1
entries_count (types.Eint width) (ops.Dense (tables.List numbers) count bits) range eint same has inside rising =
    let long : count ≡ 2 ^ width = eqb-true count (2 ^ width) same in
    let one : 1 ≤ 2 ^ width = pow_mono {i = 0} {j = width} (omega arith) in
    let ends = both (int_le (pos 0) range.0) (int_le range.1 (pos (2 ^ width - 1))) inside in
    let low = holds_le (pos 0) range.0 ends.0 in
    let high = holds_le range.1 (pos (2 ^ width - 1)) ends.1 in
    let below : range.1 <ℤ pos (length numbers) = omega (arith, ints, high, one, long, has) in
    part_count numbers range low rising below
entries_count (types.Eint width) (ops.Dense (tables.Splat z) count bits) range eint same has inside rising = replicate_count z range rising
entries_count (types.Eint width) (ops.Arg ty) range eint same has inside rising = replicate_count (pos 0) range rising
entries_count (types.Eint width) (ops.Int value bits) range eint same has inside rising = replicate_count (pos 0) range rising
entries_count (types.Eint width) (ops.Apply name operands ty) range eint same has inside rising = replicate_count (pos 0) range rising
entries_count (types.Int bits) op range eint same has inside rising = absurd (false≢true eint)
entries_count (types.Tensor count bits) op range eint same has inside rising = absurd (false≢true eint)
