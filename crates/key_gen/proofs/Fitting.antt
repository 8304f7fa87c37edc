-- What is drawn fits: the errors of rows keep their bound.
use Rattle.std.proofs.Common.{◌≡◌, ℕ, ◌+◌, ◌-◌, ◌*◌, ◌/◌, ◌%◌, ◌^◌, ◌<◌, ◌≤◌, min, ℤ, Bool, List, [], ◌∷◌, ◌++◌, length, map, get_or, sym, ap, subst, arith, ◌∙◌}
use Rattle.std.specs.List.{range_with_len, slice_index_or}
use Rattle.std.proofs.lemmas.List.{length-set, length_push}
use Rattle.std.proofs.lemmas.List.FromFn.{get_or-map-range_with_len, length-map-range_with_len}
use Rattle.std.proofs.lemmas.Nat.{div-mul-add, mod-mul-add, mod_below}
use Rattle.std.proofs.Math.Nat.{mod-eq_of_lt}
use Rattle.word_ring.specs.Words.{word_sum, word_difference, word_negation, size, RingLaws}
use Rattle.word_ring.specs.Signed.{word_of, SignedLaws}
use Rattle.seed_stream.specs.Draws.{draw, error_of, DrawLaws}
use Rattle.lwe_core.specs.Phase.{FitsKey, phase_of}
use Rattle.lwe_core.specs.Decoding.{encoded}
use Rattle.lwe_core.specs.Encrypts.{Encrypts}
use Rattle.lwe_core.specs.Laws.{PhaseLaws, OnesLaws, NoiseLaws}
use Rattle.gadget_decomp.specs.Decomposition.{IsGadget}
use Rattle.key_switch.specs.Key.{SwitchRowsFit, message_of, place_of}
use Rattle.key_gen.specs.Seeds.{draws_at, drawn_row, drawn_switch_row, drawn_switch_key}
use Rattle.key_gen.specs.Laws.{KeyLaws}
use Rattle.key_gen.proofs.Bits.{few_ones}
use Rattle.key_gen.proofs.Places.{place_inside}

-- the laws that this stands on
pub record LowerLaws : Type 0 where
  pub ring : RingLaws
  pub signed : SignedLaws
  pub draws : DrawLaws
  pub phases : PhaseLaws
  pub ones : OnesLaws
  pub noise : NoiseLaws

mod_twice : (n : ℕ) → n % 2 ^ 64 % 2 ^ 64 ≡ n % 2 ^ 64
mod_twice n = mod-eq_of_lt (mod_below n (2 ^ 64) (omega arith))

-- what an error adds to a message is all that is left of it
pub left_of : RingLaws → (m e : ℕ) → word_difference (word_sum m e) m ≡ e % 2 ^ 64
left_of laws m e =
    let opposite : word_sum (word_negation m) m ≡ 0 = laws.sum_commutative (word_negation m) m ∙ laws.sum_negation m in
    laws.difference_is (word_sum m e) m ∙ laws.sum_commutative (word_sum m e) (word_negation m)
    ∙ sym (laws.sum_associative (word_negation m) m e) ∙ ap (λ w. word_sum w e) opposite ∙ laws.sum_zero e

-- also where the sum is taken modulo 2^64 once more
left_over : RingLaws → (m e : ℕ) → word_difference (word_sum m e % 2 ^ 64) m ≡ e % 2 ^ 64
left_over laws m e = ap (λ w. word_difference w m) (mod_twice (m + e)) ∙ left_of laws m e

pub size_left : (e : ℕ) → size (e % 2 ^ 64) ≡ size e
size_left e = ap (λ w. min w (2 ^ 64 - w)) (mod_twice e)

pub mask_long : (key : List ℕ) (place n : ℕ) → length (draws_at key place n ++ 0 ∷ []) ≡ n + 1
mask_long key place n = length_push (draws_at key place n) 0 ∙ ap (λ m. m + 1) (length-map-range_with_len (draw key) place n)

pub row_long : (key : List ℕ) (place : ℕ) (bits : List Bool) (message bound : ℕ) → FitsKey bits (drawn_row key place bits message bound)
row_long key place bits message bound = length-set (draws_at key place (length bits) ++ 0 ∷ []) (length bits) _ ∙ mask_long key place (length bits)

-- the phase of a row is its message, within the bound
row_near : LowerLaws → (key : List ℕ) (place : ℕ) (bits : List Bool) (message bound : ℕ) → size (word_difference (phase_of bits (drawn_row key place bits message bound)) message) ≤ bound
row_near laws key place bits message bound =
    let error = error_of (draw key (place + length bits)) bound in
    let phase = laws.phases.phase_sealed bits (draws_at key place (length bits) ++ 0 ∷ []) (word_sum message (word_of error)) (mask_long key place (length bits)) in
    let left : size (word_difference (phase_of bits (drawn_row key place bits message bound)) message) ≡ size (word_of error) =
    ap (λ p. size (word_difference p message)) phase ∙ ap size (left_over laws.ring message (word_of error)) ∙ size_left (word_of error) in
    omega (arith, left, laws.signed.word_size error, laws.draws.within (draw key (place + length bits)) bound)

fresh : LowerLaws → (key : List ℕ) (place : ℕ) (bits : List Bool) (value : ℤ) (width bound : ℕ) → Encrypts bits (drawn_row key place bits (encoded width value) bound) value width bound
fresh laws key place bits value width bound = record {
  fits = row_long key place bits (encoded width value) bound;
  near =
      let row = drawn_row key place bits (encoded width value) bound in
      omega (arith, laws.noise.error_size (phase_of bits row) width value, row_near laws key place bits (encoded width value) bound);
}

pub switch_fits : LowerLaws → (key : List ℕ) (base level bound : ℕ) (big small : List Bool) → IsGadget base level → SwitchRowsFit base level bound big small (drawn_switch_key key base level bound big small).rows
switch_fits laws key base level bound big small gadget =
    let row = drawn_switch_row key base level bound big small in
    record {
      count = length-map-range_with_len row 0 (length big * level);
      long = λ at other inside.
          let is : get_or (map row (range_with_len 0 (length big * level))) at other ≡ row at = get_or-map-range_with_len row 0 (length big * level) at at other (omega (arith, inside, length-map-range_with_len row 0 (length big * level))) (omega arith) in
          rw is (row_long key (at * (length small + 1)) small (message_of base big (at / level) (at % level + 1)) bound);
      near = λ i t below first last.
          let r = place_of level i t in
          let inside : r < length big * level = place_inside level (length big) i t below first last in
          let bit : r / level ≡ i = div-mul-add i level (t - 1) (omega (arith, first, last)) in
          let place : r % level + 1 ≡ t = omega (arith, mod-mul-add i level (t - 1) (omega (arith, first, last)), first) in
          let is : slice_index_or (map row (range_with_len 0 (length big * level))) r [] ≡ row r = get_or-map-range_with_len row 0 (length big * level) r r [] inside (omega arith) in
          let near = row_near laws key (r * (length small + 1)) small (message_of base big (r / level) (r % level + 1)) bound in
          rw is (subst (λ (m : ℕ). size (word_difference (phase_of small (row r)) m) ≤ bound) (ap (λ (j : ℕ). message_of base big j (r % level + 1)) bit ∙ ap (message_of base big i) place) near);
    }

pub keys : LowerLaws → KeyLaws
keys laws = record { few_ones = few_ones laws.ones; switch_fits = switch_fits laws; fresh = fresh laws }
