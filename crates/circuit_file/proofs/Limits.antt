-- Numbers within the limits of parameters fit the fields of parameters.
use Rattle.std.proofs.Common.{◌≡◌, ℕ, ◌+◌, ◌*◌, ◌-◌, ◌/◌, ◌<◌, ◌≤◌, ◌^◌, Bool, true, false, ◌&&◌, ◌||◌, leb, ltb, eqb, List, ℤ, pos, negsuc, int_le, arith, sym, ap, refl, ◌∙◌, mul-le-mul}
use Rattle.std.proofs.Math.Pow.{pow_mono}
use Rattle.std.proofs.Math.Nat.{div-le_self}
use Rattle.std.specs.Prelude.{IsTrue, unsigned_abs, int_lt, not}
use Rattle.std.specs.List.{list_all}
use Rattle.std.proofs.lemmas.Bool.{and_parts, leb-true, lt-ltb, le-leb}
use Rattle.circuit_lines.specs.declared.head.GlweNumbers.{GlweNumbers}
use Rattle.circuit_lines.specs.declared.head.LweNumbers.{LweNumbers}
use Rattle.circuit_lines.specs.declared.head.GadgetNumbers.{GadgetNumbers}
use Rattle.fhe_params.specs.Params.{is_between, is_glwe, is_lwe, is_gadget, coefficients}
use Rattle.circuit_file.specs.Params.{is_natural, glwe_choice, is_glwe_line, lwe_choice, is_lwe_line, gadget, is_gadget_line}
use Rattle.forms.specs.Limits.{most_width}
use Rattle.tfhe_level.specs.declared.level.TfheOp.{TfheOp}
use Rattle.tfhe_level.specs.Rules.{message_ranges}
use Rattle.circuit_nodes.specs.Tests.{holds_range, is_least_width}
use Rattle.circuit_file.specs.Circuit.{is_width}
use Rattle.circuit_file.specs.Fitting.{fits_bits, fits_glwe, fits_lwe, fits_gadget}

-- a number of so many bits
fits_small : (bits : ℕ) (z : ℤ) → is_natural z ≡ true → unsigned_abs z < 2 ^ bits → fits_bits bits z ≡ true
fits_small bits (pos n) natural small = rw (le-leb 0 n (omega arith), lt-ltb n (2 ^ bits) small) refl
fits_small bits (negsuc n) natural small = absurd cc

fits_natural : (bits : ℕ) (z : ℤ) → fits_bits bits z ≡ true → is_natural z ≡ true
fits_natural bits z e = (and_parts (int_le (pos 0) z) (int_lt z (pos (2 ^ bits))) e).0

pub both : (a b : Bool) → a ≡ true → b ≡ true → (a && b) ≡ true
both a b first second = rw (first, second) refl

same_and : (natural fit limits : Bool) → (fit ≡ true → natural ≡ true) → (natural ≡ true → limits ≡ true → fit ≡ true) → (natural && limits) ≡ (fit && limits)
same_and true true limits from to = refl
same_and true false true from to = absurd (let e = to refl refl in cc)
same_and true false false from to = refl
same_and false true limits from to = absurd (let e = from refl in cc)
same_and false false limits from to = refl

most : (least high n : ℕ) → is_between least high n ≡ true → n ≤ high
most least high n e = leb-true n high (and_parts (leb least n) (leb n high) e).1

-- the size of polynomials, whatever their number
pub few_ones : (k log_n ones : ℕ) → k ≤ 3 → log_n ≤ 13 → ones ≤ k * 2 ^ log_n → ones ≤ 3 * 2 ^ 13
few_ones k log_n ones few low most_ones =
    let size : 2 ^ log_n ≤ 2 ^ 13 = pow_mono low in
    let product : k * 2 ^ log_n ≤ 3 * 2 ^ 13 = mul-le-mul few size in
    omega (arith, most_ones, product)

glwe_natural : (g : GlweNumbers) → fits_glwe g ≡ true → ((is_natural g.k && is_natural g.log_n) && (is_natural g.ones && is_natural g.error)) ≡ true
glwe_natural g e =
    let a = and_parts (fits_bits 32 g.k && fits_bits 32 g.log_n) (fits_bits 63 g.ones && fits_bits 63 g.error) e in
    let first = and_parts (fits_bits 32 g.k) (fits_bits 32 g.log_n) a.0 in
    let last = and_parts (fits_bits 63 g.ones) (fits_bits 63 g.error) a.1 in
    rw (fits_natural 32 g.k first.0, fits_natural 32 g.log_n first.1, fits_natural 63 g.ones last.0, fits_natural 63 g.error last.1) refl

glwe_fits : (g : GlweNumbers) → ((is_natural g.k && is_natural g.log_n) && (is_natural g.ones && is_natural g.error)) ≡ true → is_glwe (glwe_choice g) ≡ true → fits_glwe g ≡ true
glwe_fits g natural e =
    let n = and_parts (is_natural g.k && is_natural g.log_n) (is_natural g.ones && is_natural g.error) natural in
    let n1 = and_parts (is_natural g.k) (is_natural g.log_n) n.0 in
    let n2 = and_parts (is_natural g.ones) (is_natural g.error) n.1 in
    let c = glwe_choice g in
    let l = and_parts (is_between 1 3 c.k && is_between 1 13 c.log_n) (is_between 0 (c.k * coefficients c) c.ones && is_between 0 (2 ^ 62 - 1) c.error) e in
    let l1 = and_parts (is_between 1 3 c.k) (is_between 1 13 c.log_n) l.0 in
    let l2 = and_parts (is_between 0 (c.k * coefficients c) c.ones) (is_between 0 (2 ^ 62 - 1) c.error) l.1 in
    let k = most 1 3 c.k l1.0 in
    let log_n = most 1 13 c.log_n l1.1 in
    let ones : c.ones < 2 ^ 63 = omega (arith, few_ones c.k c.log_n c.ones k log_n (most 0 (c.k * coefficients c) c.ones l2.0)) in
    let error = most 0 (2 ^ 62 - 1) c.error l2.1 in
    rw (fits_small 32 g.k n1.0 (omega (arith, k)), fits_small 32 g.log_n n1.1 (omega (arith, log_n)), fits_small 63 g.ones n2.0 ones, fits_small 63 g.error n2.1 (omega (arith, error))) refl

pub glwe_by_fit : (g : GlweNumbers) → is_glwe_line g ≡ (fits_glwe g && is_glwe (glwe_choice g))
glwe_by_fit g = same_and ((is_natural g.k && is_natural g.log_n) && (is_natural g.ones && is_natural g.error)) (fits_glwe g) (is_glwe (glwe_choice g)) (glwe_natural g) (glwe_fits g)

lwe_natural : (l : LweNumbers) → fits_lwe l ≡ true → (is_natural l.n && (is_natural l.ones && is_natural l.error)) ≡ true
lwe_natural l e =
    let a = and_parts (fits_bits 32 l.n) (fits_bits 63 l.ones && fits_bits 63 l.error) e in
    let last = and_parts (fits_bits 63 l.ones) (fits_bits 63 l.error) a.1 in
    rw (fits_natural 32 l.n a.0, fits_natural 63 l.ones last.0, fits_natural 63 l.error last.1) refl

lwe_fits : (l : LweNumbers) → (is_natural l.n && (is_natural l.ones && is_natural l.error)) ≡ true → is_lwe (lwe_choice l) ≡ true → fits_lwe l ≡ true
lwe_fits l natural e =
    let n = and_parts (is_natural l.n) (is_natural l.ones && is_natural l.error) natural in
    let n2 = and_parts (is_natural l.ones) (is_natural l.error) n.1 in
    let c = lwe_choice l in
    let a = and_parts (is_between 1 1024 c.n) (is_between 0 c.n c.ones && is_between 0 (2 ^ 62 - 1) c.error) e in
    let b = and_parts (is_between 0 c.n c.ones) (is_between 0 (2 ^ 62 - 1) c.error) a.1 in
    let dim = most 1 1024 c.n a.0 in
    rw (fits_small 32 l.n n.0 (omega (arith, dim)), fits_small 63 l.ones n2.0 (omega (arith, dim, most 0 c.n c.ones b.0)), fits_small 63 l.error n2.1 (omega (arith, most 0 (2 ^ 62 - 1) c.error b.1))) refl

pub lwe_by_fit : (l : LweNumbers) → is_lwe_line l ≡ (fits_lwe l && is_lwe (lwe_choice l))
lwe_by_fit l = same_and (is_natural l.n && (is_natural l.ones && is_natural l.error)) (fits_lwe l) (is_lwe (lwe_choice l)) (lwe_natural l) (lwe_fits l)

gadget_natural : (g : GadgetNumbers) → fits_gadget g ≡ true → (is_natural g.base && is_natural g.level) ≡ true
gadget_natural g e =
    let a = and_parts (fits_bits 32 g.base) (fits_bits 32 g.level) e in
    rw (fits_natural 32 g.base a.0, fits_natural 32 g.level a.1) refl

gadget_fits : (g : GadgetNumbers) → (is_natural g.base && is_natural g.level) ≡ true → is_gadget (gadget g) ≡ true → fits_gadget g ≡ true
gadget_fits g natural e =
    let n = and_parts (is_natural g.base) (is_natural g.level) natural in
    let c = gadget g in
    let a = and_parts (is_between 1 31 c.base) (is_between 1 (63 / c.base) c.level) e in
    rw (fits_small 32 g.base n.0 (omega (arith, most 1 31 c.base a.0)), fits_small 32 g.level n.1 (omega (arith, most 1 (63 / c.base) c.level a.1, div-le_self 63 c.base))) refl

pub gadget_by_fit : (g : GadgetNumbers) → is_gadget_line g ≡ (fits_gadget g && is_gadget (gadget g))
gadget_by_fit g = same_and (is_natural g.base && is_natural g.level) (fits_gadget g) (is_gadget (gadget g)) (gadget_natural g) (gadget_fits g)

-- ---- the width

width_fits : (ranges : List (ℤ × ℤ)) (w : ℤ) → is_natural w ≡ true → is_least_width ranges (unsigned_abs w) ≡ true → (int_le (pos 0) w && int_le w (pos most_width)) ≡ true
width_fits ranges (pos n) natural least =
    let a = and_parts (leb 1 n && leb n most_width) (list_all (holds_range n) ranges && (eqb n 1 || not (list_all (holds_range (n - 1)) ranges))) least in
    let b = and_parts (leb 1 n) (leb n most_width) a.0 in
    rw (le-leb 0 n (omega arith), b.1) refl
width_fits ranges (negsuc n) natural least = absurd cc

width_natural : (w : ℤ) → (int_le (pos 0) w && int_le w (pos most_width)) ≡ true → is_natural w ≡ true
width_natural w e = (and_parts (int_le (pos 0) w) (int_le w (pos most_width)) e).0

pub width_by_fit : (operations : List TfheOp) (w : ℤ) → is_width operations w ≡ ((int_le (pos 0) w && int_le w (pos most_width)) && is_least_width (message_ranges operations) (unsigned_abs w))
width_by_fit operations w = same_and (is_natural w) (int_le (pos 0) w && int_le w (pos most_width)) (is_least_width (message_ranges operations) (unsigned_abs w)) (width_natural w) (width_fits (message_ranges operations) w)
