-- The parts of a source are read back from their tokens: types, values, numbers, constants and operations.
use Rattle.std.proofs.Common.{◌≡◌, ℕ, ◌<◌, ◌==◌, true, false, List, [], ◌∷◌, ◌++◌, length, refl, ap, arith, codes, ℤ, Ok, Some}
use Rattle.std.specs.Fmt.{decimal, signed_decimal}
use Rattle.std.specs.List.{AllByRecursion}
use Rattle.std.proofs.lemmas.Bool.{and_parts, or_right, eq-eqb}
use Rattle.refusals.specs.Reading.{◌>>=◌}
use Rattle.mlir_lex.specs.declared.TokenKind.TheVariants.{Word, Int, Value, Text, Sign}
use Rattle.fhe_text.specs.declared.source.WrittenType.{WrittenType}
use Rattle.fhe_text.specs.declared.source.WrittenType.TheVariants as types
use Rattle.fhe_text.specs.declared.source.OpName.{OpName}
use Rattle.fhe_text.specs.declared.source.OpName.TheVariants.{AddEint, AddEintInt, SubEint, SubEintInt, SubIntEint, NegEint, MulEintInt, Zero, ApplyLookupTable}
use Rattle.fhe_text.specs.declared.source.Entries.{Entries}
use Rattle.fhe_text.specs.declared.source.Entries.TheVariants as entries
use Rattle.fhe_text.specs.declared.source.Statement.{Statement}
use Rattle.fhe_text.specs.declared.source.Statement.TheVariants as statements
use Rattle.fhe_text.specs.declared.fault.TextKind.TheVariants as kinds
use Rattle.fhe_text.specs.Roles.{Spelled}
use Rattle.fhe_text.specs.Numbers.{fits_bits, AreBits}
use Rattle.fhe_text.specs.Conditions.{op_text, quoted, op_of, all_fit, is_length_of}
use Rattle.fhe_text.specs.Printing.{value_text}
use Rattle.fhe_text.specs.Spellable.{IsWidth, IsLength, IsWritable, AreEntries, AreDefined, IsStatement, AreSome}
use Rattle.fhe_text.specs.Descent.{wrong_at, stands, some_or, kind_at, role_at, sign_at, length_at, width_at, itype_at, xtype_at, etype_at, tensor_at, type_at, next_type_at, types_at, maybe_types_at, number_at, scalar_constant_at, next_number_at, numbers_at, list_at, entries_at, item_count, entry_numbers, dense_length_at, dense_cell_at, dense_type_at, dense_constant_at, constant_at, op_at, known_name_at, next_value_at, values_at, operation_dict_at, result_at, operands_at, signature_at, applied_at, computed_at}
use Rattle.fhe_text.proofs.Decimals.{IsShort, IsShortInt, signed_again, width_again, length_again, bits_again, fits_more}
use Rattle.fhe_text.proofs.MadeParts.{held_short}
use Rattle.fhe_text.proofs.ValueNames.{names_to, value_found}
use Rattle.fhe_text.proofs.PrintedTokens.{type_tokens, types_tokens, values_tokens, numbers_tokens, entries_tokens, dense_type_tokens, signature_tokens, operands_tokens, computed_tokens}
use Rattle.fhe_text.proofs.Steps.{Goes, listed_goes, maybe_goes, appends_goes}

-- ---- numbers of types

width_back : (n : ℕ) → IsWidth n → (rest : List Spelled) → width_at ((Int, decimal n) ∷ rest) ≡ Ok (n, rest)
unfolding width_at kind_at
width_back n h rest = ap (λ o. some_or o rest (wrong_at kinds.Syntax ((Int, decimal n) ∷ rest))) (width_again n h)

length_back : (n : ℕ) → IsLength n → (rest : List Spelled) → length_at ((Int, decimal n) ∷ rest) ≡ Ok (n, rest)
unfolding length_at kind_at
length_back n h rest = ap (λ o. some_or o rest (wrong_at kinds.Shape ((Int, decimal n) ∷ rest))) (length_again n h)

itype_back : (n : ℕ) → AreBits n → (rest : List Spelled) → itype_at ((Word, 105 ∷ decimal n) ∷ rest) ≡ Ok (n, rest)
unfolding itype_at kind_at
itype_back n h rest = ap (λ o. some_or o rest (wrong_at kinds.Syntax ((Word, 105 ∷ decimal n) ∷ rest))) (bits_again n h)

xtype_back : (n : ℕ) → AreBits n → (rest : List Spelled) → xtype_at ((Word, 120 ∷ 105 ∷ decimal n) ∷ rest) ≡ Ok (n, rest)
unfolding xtype_at kind_at
xtype_back n h rest = ap (λ o. some_or o rest (wrong_at kinds.Syntax ((Word, 120 ∷ 105 ∷ decimal n) ∷ rest))) (bits_again n h)

-- ---- types

pub etype_back : (width : ℕ) → IsWidth width → (rest : List Spelled) → etype_at (type_tokens (types.Eint width) rest) ≡ Ok (width, rest)
unfolding etype_at sign_at role_at kind_at
etype_back width h rest = rw (width_back width h ((Sign, codes ">") ∷ rest)) refl

tensor_back : (count bits : ℕ) → IsLength count → AreBits bits → (rest : List Spelled) → tensor_at (type_tokens (types.Tensor count bits) rest) ≡ Ok (types.Tensor count bits, rest)
unfolding tensor_at sign_at role_at kind_at
tensor_back count bits h g rest =
    rw (length_back count h ((Word, 120 ∷ 105 ∷ decimal bits) ∷ (Sign, codes ">") ∷ rest), xtype_back bits g ((Sign, codes ">") ∷ rest)) refl

pub type_back : (t : WrittenType) → IsWritable t → (rest : List Spelled) → type_at (type_tokens t rest) ≡ Ok (t, rest)
unfolding type_at
type_back (types.Eint width) h rest = rw (etype_back width h rest) refl
type_back (types.Int bits) h rest = rw (itype_back bits h rest) refl
type_back (types.Tensor count bits) h rest = tensor_back count bits h.0 h.1 rest

next_type_back : (found : List WrittenType) (t : WrittenType) → IsWritable t → (rest : List Spelled) → next_type_at found (type_tokens t rest) ≡ Ok (found ++ t ∷ [], rest)
unfolding next_type_at
next_type_back found t h rest = rw (type_back t h rest) refl

types_go : (place : ℕ) (written : List WrittenType) → AllByRecursion IsWritable written → Goes next_type_at (λ p. type_tokens) place [] written written
types_go place written all = appends_goes next_type_at type_tokens IsWritable next_type_back place [] written all

pub type_longer : (place : ℕ) (t : WrittenType) (rest : List Spelled) → length rest < length (type_tokens t rest)
type_longer place (types.Eint width) rest = omega arith
type_longer place (types.Int bits) rest = omega arith
type_longer place (types.Tensor count bits) rest = omega arith

type_no_close : (place : ℕ) (t : WrittenType) (rest : List Spelled) → stands Sign (codes ")") (type_tokens t rest) ≡ false
type_no_close place (types.Eint width) rest = refl
type_no_close place (types.Int bits) rest = refl
type_no_close place (types.Tensor count bits) rest = refl

pub types_back : (written : List WrittenType) → AreSome IsWritable written → (rest : List Spelled) → stands Sign (codes ",") rest ≡ false → types_at (types_tokens written rest) ≡ Ok (written, rest)
unfolding types_at
types_back [] h rest e = absurd (omega (arith, h.0))
types_back (t ∷ written) h rest e = listed_goes next_type_at (λ p. type_tokens) 0 [] t written (t ∷ written) rest (types_go 0 (t ∷ written) h.1) type_longer e

maybe_types_back : (written : List WrittenType) → AllByRecursion IsWritable written → (rest : List Spelled) → maybe_types_at (types_tokens written ((Sign, codes ")") ∷ rest)) ≡ Ok (written, (Sign, codes ")") ∷ rest)
unfolding maybe_types_at
maybe_types_back written all rest =
    maybe_goes (codes ")") next_type_at (λ p. type_tokens) 0 [] written written ((Sign, codes ")") ∷ rest) (types_go 0 written all) type_longer type_no_close refl refl

-- ---- values

known_back : (args n value : ℕ) → IsShort n → value < n → (rest : List Spelled) → known_name_at (names_to args n) ((Value, value_text args value) ∷ rest) ≡ Ok (value, rest)
unfolding known_name_at kind_at
known_back args n value few lt rest =
    ap (λ o. some_or o rest (wrong_at kinds.Name ((Value, value_text args value) ∷ rest))) (value_found args n value few lt)

next_value_back : (args n : ℕ) → IsShort n → (found : List ℕ) (value : ℕ) → value < n → (rest : List Spelled) → next_value_at (names_to args n) found ((Value, value_text args value) ∷ rest) ≡ Ok (found ++ value ∷ [], rest)
unfolding next_value_at
next_value_back args n few found value lt rest = ap (λ r. r >>= λ (x : ℕ × List Spelled). Ok (found ++ x.0 ∷ [], x.1)) (known_back args n value few lt rest)

abbrev value_tokens : ℕ → ℕ → List Spelled → List Spelled
value_tokens args value rest = (Value, value_text args value) ∷ rest

values_go : (args n place : ℕ) (values : List ℕ) → IsShort n → AreDefined n values → Goes (next_value_at (names_to args n)) (λ p. value_tokens args) place [] values values
values_go args n place values few all = appends_goes (next_value_at (names_to args n)) (value_tokens args) (λ v. v < n) (next_value_back args n few) place [] values all

pub values_back : (args n : ℕ) (values : List ℕ) → IsShort n → AreSome (λ v. v < n) values → (rest : List Spelled) → stands Sign (codes ",") rest ≡ false → values_at (names_to args n) (values_tokens args values rest) ≡ Ok (values, rest)
unfolding values_at
values_back args n [] few h rest e = absurd (omega (arith, h.0))
values_back args n (v ∷ values) few h rest e =
    listed_goes (next_value_at (names_to args n)) (λ p. value_tokens args) 0 [] v values (v ∷ values) rest (values_go args n 0 (v ∷ values) few h.1) (λ p x more. omega arith) e

operands_back : (args n : ℕ) (operands : List ℕ) → IsShort n → AreDefined n operands → (rest : List Spelled) → operands_at (names_to args n) (operands_tokens args operands rest) ≡ Ok (operands, rest)
unfolding operands_at sign_at role_at kind_at
operands_back args n operands few all rest =
    ap (λ r. r >>= λ (found : List ℕ × List Spelled). sign_at (codes ")") found.1 >>= λ close. Ok (found.0, close.1))
    (maybe_goes (codes ")") (next_value_at (names_to args n)) (λ p. value_tokens args) 0 [] operands operands ((Sign, codes ")") ∷ rest) (values_go args n 0 operands few all) (λ p x more. omega arith) (λ p x more. refl) refl refl)

-- ---- constants

number_back : (z : ℤ) → IsShortInt z → fits_bits 64 z ≡ true → (rest : List Spelled) → number_at ((Int, signed_decimal z) ∷ rest) ≡ Ok (z, rest)
unfolding number_at kind_at
number_back z few h rest = ap (λ o. some_or o rest (wrong_at kinds.Syntax ((Int, signed_decimal z) ∷ rest))) (signed_again 64 z few h)

held_back : (bits : ℕ) (z : ℤ) → AreBits bits → fits_bits bits z ≡ true → (rest : List Spelled) → number_at ((Int, signed_decimal z) ∷ rest) ≡ Ok (z, rest)
held_back bits z h fits rest = number_back z (held_short bits z h fits) (fits_more bits 64 z h.1 fits) rest

scalar_back : (bits : ℕ) (z : ℤ) → AreBits bits → fits_bits bits z ≡ true → (rest : List Spelled) → scalar_constant_at ((Int, signed_decimal z) ∷ (Sign, codes ":") ∷ (Word, 105 ∷ decimal bits) ∷ rest) ≡ Ok (statements.Int z bits, rest)
unfolding scalar_constant_at sign_at role_at kind_at
scalar_back bits z h fits rest =
    rw (held_back bits z h fits ((Sign, codes ":") ∷ (Word, 105 ∷ decimal bits) ∷ rest), itype_back bits h rest, fits) refl

next_number_back : (bits : ℕ) → AreBits bits → (found : List ℤ) (z : ℤ) → fits_bits bits z ≡ true → (rest : List Spelled) → next_number_at found ((Int, signed_decimal z) ∷ rest) ≡ Ok (found ++ z ∷ [], rest)
unfolding next_number_at
next_number_back bits h found z fits rest = rw (held_back bits z h fits rest) refl

all_held : (bits : ℕ) (numbers : List ℤ) → all_fit bits numbers ≡ true → AllByRecursion (λ z. fits_bits bits z ≡ true) numbers
all_held bits [] e = tt
all_held bits (z ∷ numbers) e = let parts = and_parts (fits_bits bits z) (all_fit bits numbers) e in (parts.0, all_held bits numbers parts.1)

numbers_back : (bits : ℕ) (numbers : List ℤ) → AreBits bits → 0 < length numbers → all_fit bits numbers ≡ true → (rest : List Spelled) → stands Sign (codes ",") rest ≡ false → numbers_at (numbers_tokens numbers rest) ≡ Ok (numbers, rest)
unfolding numbers_at
numbers_back bits [] h some fit rest e = absurd (omega (arith, some))
numbers_back bits (z ∷ numbers) h some fit rest e =
    listed_goes next_number_at (λ p y more. (Int, signed_decimal y) ∷ more) 0 [] z numbers (z ∷ numbers) rest
    (appends_goes next_number_at (λ y more. (Int, signed_decimal y) ∷ more) (λ y. fits_bits bits y ≡ true) (next_number_back bits h) 0 [] (z ∷ numbers) (all_held bits (z ∷ numbers) fit))
    (λ p x more. omega arith) e

list_back : (bits : ℕ) (numbers : List ℤ) → AreBits bits → 0 < length numbers → all_fit bits numbers ≡ true → (rest : List Spelled) → list_at ((Sign, codes "[") ∷ numbers_tokens numbers ((Sign, codes "]") ∷ rest)) ≡ Ok (numbers, rest)
unfolding list_at sign_at role_at kind_at
list_back bits numbers h some fit rest = rw (numbers_back bits numbers h some fit ((Sign, codes "]") ∷ rest) refl) refl

entries_back : (count bits : ℕ) (found : Entries) → IsLength count → AreBits bits → AreEntries count bits found → (rest : List Spelled) → entries_at (entries_tokens found rest) ≡ Ok (found, rest)
unfolding entries_at
entries_back count bits (entries.List numbers) long few h rest = rw (list_back bits numbers few (omega (arith, long.0, h.0)) h.1 rest) refl
entries_back count bits (entries.Splat value) long few h rest = rw (held_back bits value few h rest) refl

length_fits : (count bits : ℕ) (found : Entries) → AreEntries count bits found → is_length_of (item_count found) count ≡ true
length_fits count bits (entries.List numbers) h = or_right (length numbers == 0) (length numbers == count) (eq-eqb (length numbers) count h.0)
length_fits count bits (entries.Splat value) h = refl

numbers_fit : (count bits : ℕ) (found : Entries) → AreEntries count bits found → all_fit bits (entry_numbers found) ≡ true
numbers_fit count bits (entries.List numbers) h = h.1
numbers_fit count bits (entries.Splat value) h = rw h refl

dense_length_back : (items count : ℕ) → IsLength count → is_length_of items count ≡ true → (rest : List Spelled) → dense_length_at items ((Int, decimal count) ∷ rest) ≡ Ok (count, rest)
unfolding dense_length_at
dense_length_back items count h e rest = rw (length_back count h rest, e) refl

dense_cell_back : (numbers : List ℤ) (bits : ℕ) → AreBits bits → all_fit bits numbers ≡ true → (rest : List Spelled) → dense_cell_at numbers ((Word, 120 ∷ 105 ∷ decimal bits) ∷ rest) ≡ Ok (bits, rest)
unfolding dense_cell_at
dense_cell_back numbers bits h e rest = rw (xtype_back bits h rest, e) refl

dense_type_back : (count bits : ℕ) (found : Entries) → IsLength count → AreBits bits → AreEntries count bits found → (rest : List Spelled) → dense_type_at found (dense_type_tokens count bits rest) ≡ Ok (statements.Dense found count bits, rest)
unfolding dense_type_at sign_at role_at kind_at
dense_type_back count bits found long few h rest =
    rw (dense_length_back (item_count found) count long (length_fits count bits found h) ((Word, 120 ∷ 105 ∷ decimal bits) ∷ (Sign, codes ">") ∷ rest), dense_cell_back (entry_numbers found) bits few (numbers_fit count bits found h) ((Sign, codes ">") ∷ rest)) refl

dense_back : (count bits : ℕ) (found : Entries) → IsLength count → AreBits bits → AreEntries count bits found → (rest : List Spelled) → dense_constant_at ((Word, codes "dense") ∷ (Sign, codes "<") ∷ entries_tokens found ((Sign, codes ">") ∷ (Sign, codes ":") ∷ dense_type_tokens count bits rest)) ≡ Ok (statements.Dense found count bits, rest)
unfolding dense_constant_at sign_at role_at kind_at
dense_back count bits found long few h rest =
    rw (entries_back count bits found long few h ((Sign, codes ">") ∷ (Sign, codes ":") ∷ dense_type_tokens count bits rest)) (dense_type_back count bits found long few h rest)

-- ---- operations

op_again : (name : OpName) → op_of (quoted (op_text name)) ≡ Some name
op_again AddEint = refl
op_again AddEintInt = refl
op_again SubEint = refl
op_again SubEintInt = refl
op_again SubIntEint = refl
op_again NegEint = refl
op_again MulEintInt = refl
op_again Zero = refl
op_again ApplyLookupTable = refl

op_back : (name : OpName) (rest : List Spelled) → op_at ((Text, quoted (op_text name)) ∷ rest) ≡ Ok (name, rest)
unfolding op_at kind_at
op_back name rest = ap (λ o. some_or o rest (wrong_at kinds.Op ((Text, quoted (op_text name)) ∷ rest))) (op_again name)

result_back : (t : WrittenType) → IsWritable t → (rest : List Spelled) → result_at (type_tokens t rest) ≡ Ok (t, rest)
unfolding result_at
result_back (types.Eint width) h rest = type_back (types.Eint width) h rest
result_back (types.Int bits) h rest = type_back (types.Int bits) h rest
result_back (types.Tensor count bits) h rest = type_back (types.Tensor count bits) h rest

signature_back : (written : List WrittenType) (result : WrittenType) → AllByRecursion IsWritable written → IsWritable result → (rest : List Spelled) → signature_at (signature_tokens written result rest) ≡ Ok ((written, result), rest)
unfolding signature_at sign_at role_at kind_at
signature_back written result all h rest = rw (maybe_types_back written all ((Sign, codes "->") ∷ type_tokens result rest), result_back result h rest) refl

no_dict : (written : List WrittenType) (result : WrittenType) (rest : List Spelled) → operation_dict_at (signature_tokens written result rest) ≡ Ok (tt, signature_tokens written result rest)
unfolding operation_dict_at
no_dict written result rest = refl

applied_back : (args n : ℕ) (name : OpName) (operands : List ℕ) (written : List WrittenType) (result : WrittenType) → IsShort n → AreDefined n operands → AllByRecursion IsWritable written → IsWritable result → (rest : List Spelled) → applied_at (names_to args n) ((Text, quoted (op_text name)) ∷ operands_tokens args operands (signature_tokens written result rest)) ≡ Ok (statements.Op name operands written result, rest)
unfolding applied_at
applied_back args n name operands written result few all writable h rest =
    rw (op_back name (operands_tokens args operands (signature_tokens written result rest)), operands_back args n operands few all (signature_tokens written result rest), no_dict written result rest, signature_back written result writable h rest) refl

-- ---- what a statement computes

constant_number : (bits : ℕ) (z : ℤ) → AreBits bits → fits_bits bits z ≡ true → (rest : List Spelled) → constant_at ((Word, codes "arith.constant") ∷ (Int, signed_decimal z) ∷ (Sign, codes ":") ∷ (Word, 105 ∷ decimal bits) ∷ rest) ≡ Ok (statements.Int z bits, rest)
unfolding constant_at role_at kind_at
constant_number bits z h fits rest = scalar_back bits z h fits rest

constant_dense : (count bits : ℕ) (found : Entries) → IsLength count → AreBits bits → AreEntries count bits found → (rest : List Spelled) → constant_at ((Word, codes "arith.constant") ∷ (Word, codes "dense") ∷ (Sign, codes "<") ∷ entries_tokens found ((Sign, codes ">") ∷ (Sign, codes ":") ∷ dense_type_tokens count bits rest)) ≡ Ok (statements.Dense found count bits, rest)
unfolding constant_at role_at kind_at
constant_dense count bits found long few h rest = dense_back count bits found long few h rest

pub computed_back : (args n : ℕ) (statement : Statement) → IsShort n → IsStatement n statement → (rest : List Spelled) → computed_at (names_to args n) (computed_tokens args statement rest) ≡ Ok (statement, rest)
unfolding computed_at
computed_back args n (statements.Int value bits) few h rest = constant_number bits value h.0 h.1 rest
computed_back args n (statements.Dense found count bits) few h rest = constant_dense count bits found h.0 h.1 h.2 rest
computed_back args n (statements.Op name operands written result) few h rest = applied_back args n name operands written result few h.0 h.1 h.2 rest
