-- The polynomials of a flat key.
use Rattle.std.proofs.Common.{◌≡◌, ℕ, zero, suc, ◌+◌, ◌*◌, Bool, List, [], ◌∷◌, ◌++◌, length, take, drop, arith, ap, sym, refl, ◌∙◌}
use Rattle.std.proofs.lemmas.List.{nil_from_length, length-take-le, length-drop, take-append-drop, take_at, drop_at}
use Rattle.std.proofs.lemmas.List.Elements.{All-nil, All-cons, All-head, All-tail}
use Rattle.glwe_core.specs.Glwe.{IsKeyFrom, flat_key_of}
use Rattle.blind_rotate.specs.Fits.{key_polynomials}
use Rattle.blind_rotate.specs.Laws.{KeyPolynomialLaws}

pub polynomials_are : (k n : ℕ) (flat : List Bool) → length flat ≡ k * n → IsKeyFrom k n flat (key_polynomials k n flat)
polynomials_are zero n flat long = record {
  number = refl;
  lengths = All-nil (λ bits. length bits ≡ n);
  flat_bits = sym (nil_from_length flat (omega arith));
}
polynomials_are (suc k) n flat long =
    let split : suc k * n ≡ n + k * n = omega arith in
    let rest = polynomials_are k n (drop n flat) (length-drop n flat ∙ omega arith) in
    record {
      number = ap suc rest.number;
      lengths = All-cons (λ bits. length bits ≡ n) (take n flat) (key_polynomials k n (drop n flat)) (length-take-le n flat (omega arith)) rest.lengths;
      flat_bits = ap (λ bits. take n flat ++ bits) rest.flat_bits ∙ take-append-drop n flat;
    }

pub polynomials_only : (k n : ℕ) (flat : List Bool) (key : List (List Bool)) → IsKeyFrom k n flat key → key ≡ key_polynomials k n flat
polynomials_only zero n flat [] is = refl
polynomials_only zero n flat (bits ∷ key) is = absurd (omega (arith, is.number))
polynomials_only (suc k) n flat [] is = absurd (omega (arith, is.number))
polynomials_only (suc k) n flat (bits ∷ key) is =
    let long : length bits ≡ n = All-head (λ bits. length bits ≡ n) bits key is.lengths in
    let first : take n flat ≡ bits = ap (take n) (sym is.flat_bits) ∙ take_at bits (flat_key_of key) n long in
    let rest : drop n flat ≡ flat_key_of key = ap (drop n) (sym is.flat_bits) ∙ drop_at bits (flat_key_of key) n long in
    let others : key ≡ key_polynomials k n (drop n flat) =
    polynomials_only k n (drop n flat) key (record {
      number = omega (arith, is.number);
      lengths = All-tail (λ bits. length bits ≡ n) bits key is.lengths;
      flat_bits = sym rest;
    }) in
    ap (λ b. b ∷ key) (sym first) ∙ ap (λ ks. take n flat ∷ ks) others

pub key_parts : KeyPolynomialLaws
key_parts = record { polynomials_are = polynomials_are; polynomials_only = polynomials_only }
