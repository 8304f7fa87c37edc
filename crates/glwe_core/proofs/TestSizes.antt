-- Ciphertexts of two coefficients, for the tests.
use Rattle.std.proofs.Common.{◌≡◌, ℕ, ◌+◌, ◌-◌, ◌*◌, ◌<◌, Bool, List, [], ◌∷◌, length, get_or, replicate, All, arith, ap, sym, subst, ◌∙◌, refl}
use Prim.Native.Nat.{zero, suc}
use Rattle.std.proofs.lemmas.List.{length-map, length-replicate, get_or-replicate}
use Rattle.std.proofs.lemmas.List.Elements.{All-from_get_or}
use Rattle.glwe_core.specs.Glwe.{lengths_of, degree_of, FitsGlweKey, IsKeyFrom}
use Rattle.glwe_core.proofs.PartLoops.{lengths-at}

pub size_number : (m : ℕ) (c : List (List ℕ)) → lengths_of c ≡ replicate m 2 → length c ≡ m
size_number m c e = sym (length-map c length) ∙ ap length e ∙ length-replicate {A = ℕ} m 2

size_at : (m : ℕ) (c : List (List ℕ)) (i : ℕ) → i < m → lengths_of c ≡ replicate m 2 → length (get_or c i []) ≡ 2
size_at m c i inside e = sym (lengths-at c i) ∙ ap (λ ns. get_or ns i 0) e ∙ get_or-replicate m i 2 0 inside

pub size_degree : (m : ℕ) (c : List (List ℕ)) → 0 < m → lengths_of c ≡ replicate m 2 → degree_of c ≡ 2
size_degree m c some e = size_at m c 0 some e

pub size_fits : (k : ℕ) (key : List (List Bool)) (flat : List Bool) (c : List (List ℕ)) → IsKeyFrom k 2 flat key → lengths_of c ≡ replicate (k + 1) 2 → FitsGlweKey (degree_of c) key c
size_fits k key flat c is e =
    let degree : degree_of c ≡ 2 = size_degree (k + 1) c (omega arith) e in
    let number : length c ≡ k + 1 = size_number (k + 1) c e in
    record {
      number = number ∙ ap (λ n. n + 1) (sym is.number);
      lengths = All-from_get_or (λ part. length part ≡ degree_of c) c [] (λ i inside. size_at (k + 1) c i (omega (arith, number, inside)) e ∙ sym degree);
      bits = subst (λ n. All (λ bits. length bits ≡ n) key) (sym degree) is.lengths;
    }

pub zeros_size : (m : ℕ) → lengths_of (replicate m (0 ∷ 0 ∷ [])) ≡ replicate m 2
zeros_size zero = refl
zeros_size (suc m) = ap (λ ns. 2 ∷ ns) (zeros_size m)

pub size_dim : (k : ℕ) (c : List (List ℕ)) (n : ℕ) → n ≡ 2 * k + 1 → lengths_of c ≡ replicate (k + 1) 2 → n ≡ (length c - 1) * degree_of c + 1
size_dim k c n n_is e =
    let masks : length c - 1 ≡ k = omega (arith, size_number (k + 1) c e) in
    n_is ∙ sym (ap (λ m. m * degree_of c + 1) masks ∙ ap (λ d. k * d + 1) (size_degree (k + 1) c (omega arith) e) ∙ omega arith)
