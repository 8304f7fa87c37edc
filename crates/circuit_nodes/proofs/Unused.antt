-- Looking for the first key switch that is not named.
use Rattle.std.proofs.Common.{◌≡◌, ℕ, zero, suc, ◌+◌, ◌<◌, ◌≤◌, Bool, true, false, cond, ◌&&◌, ◌||◌, ltb, Option, List, [], ◌∷◌, length, drop, arith, sym, ap, refl, ◌∙◌}
use Rattle.std.specs.Prelude.{not, Some, None}
use Rattle.std.specs.List.{slice_index_or}
use Rattle.std.proofs.lemmas.Bool.{lt-ltb, le-ltb}
use Rattle.std.proofs.lemmas.List.{drop_all}
use Rattle.tfhe_level.specs.declared.level.TfheOp.{TfheOp}
use Rattle.tfhe_level.specs.Operations.{is_switch}
use Rattle.circuit_nodes.specs.Tests.{stands}
use Rattle.circuit_nodes.specs.Walk.{Walk, used_from, is_unused, broken_place}

used_at : (named : List Bool) (number i : ℕ) (ops : List TfheOp) → i < length ops
    → used_from named number (drop i ops) ≡ cond (stands is_switch ops i && not (slice_index_or named number false)) 0 (suc (used_from named (number + 1) (drop (suc i) ops)))
used_at named number i [] lt = absurd (omega (arith, lt))
used_at named number zero (op ∷ ops) lt = refl
used_at named number (suc i) (op ∷ ops) lt = used_at named number i ops (omega (arith, lt))

-- one is unused here
pub unused_here : (w : Walk) (place : ℕ) → place < length w.operations → used_from w.named 0 w.operations ≡ place + used_from w.named place (drop place w.operations)
    → is_unused w.named w.operations place ≡ true → Some place ≡ broken_place w
unused_here w place lt so_far unused =
    let none : used_from w.named place (drop place w.operations) ≡ 0 = used_at w.named place place w.operations lt ∙ ap (λ b. cond b 0 (suc (used_from w.named (place + 1) (drop (suc place) w.operations)))) unused in
    let here : used_from w.named 0 w.operations ≡ place = omega (arith, so_far, none) in
    rw (here, lt-ltb place (length w.operations) lt) refl

-- none is unused here
pub used_here : (w : Walk) (place : ℕ) → place < length w.operations → used_from w.named 0 w.operations ≡ place + used_from w.named place (drop place w.operations)
    → is_unused w.named w.operations place ≡ false → used_from w.named 0 w.operations ≡ (place + 1) + used_from w.named (place + 1) (drop (place + 1) w.operations)
used_here w place lt so_far used =
    let next : used_from w.named place (drop place w.operations) ≡ suc (used_from w.named (place + 1) (drop (suc place) w.operations)) = used_at w.named place place w.operations lt ∙ ap (λ b. cond b 0 (suc (used_from w.named (place + 1) (drop (suc place) w.operations)))) used in
    let one : suc place ≡ place + 1 = omega arith in
    let moved : used_from w.named (place + 1) (drop (suc place) w.operations) ≡ used_from w.named (place + 1) (drop (place + 1) w.operations) = ap (λ k. used_from w.named (place + 1) (drop k w.operations)) one in
    omega (arith, so_far, next, moved)

-- none is unused at all
pub all_used : (w : Walk) (place : ℕ) → length w.operations ≤ place → place ≤ length w.operations → used_from w.named 0 w.operations ≡ place + used_from w.named place (drop place w.operations)
    → cond w.broken (Some (length w.operations)) None ≡ broken_place w
all_used w place ge le so_far =
    let none : used_from w.named place (drop place w.operations) ≡ 0 = ap (λ ops. used_from w.named place ops) (drop_all place w.operations ge) in
    let all : used_from w.named 0 w.operations ≡ length w.operations = omega (arith, so_far, none, ge, le) in
    rw (all, le-ltb (length w.operations) (length w.operations) (omega arith)) refl
