-- The patterns so far and those of them that stay.
use Rattle.std.proofs.Common.{◌≡◌, ℕ, ◌<◌, ◌≤◌, true, List, [], ◌∷◌, ◌++◌, length, refl, sym, subst, arith}
use Prim.Native.Nat.{zero, suc}
use Rattle.std.specs.Prelude.{Some, slice_get, AllPairs}
use Rattle.std.specs.List.{AllByRecursion}
use Rattle.std.proofs.lemmas.Bool.{false≢true}
use Rattle.std.proofs.lemmas.List.{length_push}
use Rattle.std.proofs.lemmas.List.Elements.{All-from_recursion}
use Rattle.std.proofs.lemmas.List.Quantifiers.{all_pairs_push}
use Rattle.std.proofs.lemmas.Option.{none-some}
use Rattle.ir_core.specs.Graph.{numbers_of}
use Rattle.ap_level.specs.declared.level.ApOp.{ApOp}
use Rattle.ap_level.specs.declared.level.ApOp.TheVariants.{Input, Look, Out}
use Rattle.ap_level.specs.Operations.{is_input, is_look}
use Rattle.live_patterns.proofs.Walk.{IsPlaced, ArePlaced, placed_longer, numbers_push, IsKept}

-- ---- all of a list

pub all_push : {A : Type 0} (P : A → Type 0) (xs : List A) (x : A) → AllByRecursion P xs → P x → AllByRecursion P (xs ++ x ∷ [])
all_push P [] x all is = (is, tt)
all_push P (first ∷ xs) x all is = (all.0, all_push P xs x all.1 is)

pub all_weaker : {A : Type 0} (P Q : A → Type 0) → ((x : A) → P x → Q x) → (xs : List A) → AllByRecursion P xs → AllByRecursion Q xs
all_weaker P Q weaker [] all = tt
all_weaker P Q weaker (x ∷ xs) all = (weaker x all.0, all_weaker P Q weaker xs all.1)

pub all_front : {A : Type 0} (P : A → Type 0) (xs ys : List A) → AllByRecursion P (xs ++ ys) → AllByRecursion P xs
all_front P [] ys all = tt
all_front P (x ∷ xs) ys all = (all.0, all_front P xs ys all.1)

pub all_last : {A : Type 0} (P : A → Type 0) (xs : List A) (x : A) → AllByRecursion P (xs ++ x ∷ []) → P x
all_last P [] x all = all.0
all_last P (first ∷ xs) x all = all_last P xs x all.1

-- ---- what stands at a place

pub get_front : {A : Type 0} (xs ys : List A) (place : ℕ) (x : A) → slice_get xs place ≡ Some x → slice_get (xs ++ ys) place ≡ Some x
get_front [] ys place x at = absurd (none-some x at)
get_front (first ∷ xs) ys zero x at = at
get_front (first ∷ xs) ys (suc place) x at = get_front xs ys place x at

pub get_last : {A : Type 0} (xs : List A) (x : A) → slice_get (xs ++ x ∷ []) (length xs) ≡ Some x
get_last [] x = refl
get_last (first ∷ xs) x = get_last xs x

-- ---- so far

pub record IsSoFar (all : List (ℕ × ApOp)) (earlier : List ApOp) (done : List (ℕ × ApOp)) : Type 0 where
  pub at : AllByRecursion (λ e. slice_get earlier e.0 ≡ Some e.1) done
  pub below : AllByRecursion (λ e. e.0 < length earlier) done
  pub rising : AllPairs (λ a b. a < b) (numbers_of done)
  pub inputs : AllByRecursion (λ op. is_input op ≡ true) earlier → length done ≡ length earlier
  pub placed : AllByRecursion (λ e. ArePlaced all done e.1) done
  pub short : length done ≤ length earlier

pub nothing_so_far : (all : List (ℕ × ApOp)) → IsSoFar all [] []
nothing_so_far all = record { at = tt; below = tt; rising = λ i j d lt within. absurd (omega (arith, within)); inputs = λ are. refl; placed = tt; short = omega arith }

no_input : (op : ApOp) → is_look op ≡ true → is_input op ≡ true → ⊥
no_input (Input lo hi) look is = false≢true look
no_input (Look constant terms entries) look is = false≢true is
no_input (Out constant terms) look is = false≢true look

at_more : (earlier : List ApOp) (op : ApOp) (done : List (ℕ × ApOp)) → AllByRecursion (λ e. slice_get earlier e.0 ≡ Some e.1) done → AllByRecursion (λ e. slice_get (earlier ++ op ∷ []) e.0 ≡ Some e.1) done
at_more earlier op done at = all_weaker (λ (e : ℕ × ApOp). slice_get earlier e.0 ≡ Some e.1) (λ (e : ℕ × ApOp). slice_get (earlier ++ op ∷ []) e.0 ≡ Some e.1) (λ e is. get_front earlier (op ∷ []) e.0 e.1 is) done at

below_more : (earlier : List ApOp) (op : ApOp) (done : List (ℕ × ApOp)) → AllByRecursion (λ e. e.0 < length earlier) done → AllByRecursion (λ e. e.0 < length (earlier ++ op ∷ [])) done
below_more earlier op done below = all_weaker (λ (e : ℕ × ApOp). e.0 < length earlier) (λ (e : ℕ × ApOp). e.0 < length (earlier ++ op ∷ [])) (λ e is. omega (arith, is, length_push earlier op)) done below

pub so_far_dropped : (all : List (ℕ × ApOp)) (earlier : List ApOp) (done : List (ℕ × ApOp)) (op : ApOp) → is_look op ≡ true → IsSoFar all earlier done → IsSoFar all (earlier ++ op ∷ []) done
so_far_dropped all earlier done op look so = record {
  at = at_more earlier op done so.at;
  below = below_more earlier op done so.below;
  rising = so.rising;
  inputs = λ are. absurd (no_input op look (all_last (λ o. is_input o ≡ true) earlier op are));
  placed = so.placed;
  short = omega (arith, so.short, length_push earlier op);
}

placed_more : (all done : List (ℕ × ApOp)) (entry : ℕ × ApOp) (op : ApOp) → ArePlaced all done op → ArePlaced all (done ++ entry ∷ []) op
placed_more all done entry op placed = all_weaker (IsPlaced all done) (IsPlaced all (done ++ entry ∷ [])) (λ o is. placed_longer all done entry o is) _ placed

numbers_below : (bound : ℕ) (done : List (ℕ × ApOp)) → AllByRecursion (λ e. e.0 < bound) done → AllByRecursion (λ n. n < bound) (numbers_of done)
numbers_below bound [] below = tt
numbers_below bound (e ∷ done) below = (below.0, numbers_below bound done below.1)

pub so_far_kept : (all : List (ℕ × ApOp)) (earlier : List ApOp) (done : List (ℕ × ApOp)) (op : ApOp) → IsKept all done earlier op → IsSoFar all earlier done → IsSoFar all (earlier ++ op ∷ []) (done ++ (length earlier, op) ∷ [])
so_far_kept all earlier done op kept so =
    let entry : ℕ × ApOp = (length earlier, op) in
    record {
      at = all_push (λ (e : ℕ × ApOp). slice_get (earlier ++ op ∷ []) e.0 ≡ Some e.1) done entry (at_more earlier op done so.at) (get_last earlier op);
      below = all_push (λ (e : ℕ × ApOp). e.0 < length (earlier ++ op ∷ [])) done entry (below_more earlier op done so.below) (omega (arith, length_push earlier op));
      rising =
          subst (AllPairs (λ a b. a < b)) (sym (numbers_push done entry))
          (all_pairs_push (λ a b. a < b) (numbers_of done) (length earlier) so.rising (All-from_recursion (λ n. n < length earlier) (numbers_of done) (numbers_below (length earlier) done so.below)));
      inputs = λ are. omega (arith, length_push done entry, length_push earlier op, so.inputs (all_front (λ o. is_input o ≡ true) earlier (op ∷ []) are));
      placed =
          all_push (λ (e : ℕ × ApOp). ArePlaced all (done ++ entry ∷ []) e.1) done entry
          (all_weaker (λ (e : ℕ × ApOp). ArePlaced all done e.1) (λ (e : ℕ × ApOp). ArePlaced all (done ++ entry ∷ []) e.1) (λ e is. placed_more all done entry e.1 is) done so.placed)
          (placed_more all done entry op kept.operands);
      short = omega (arith, so.short, length_push done entry, length_push earlier op);
    }
