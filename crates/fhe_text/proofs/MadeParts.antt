-- The parts of a printed text are made of their tokens: types, values, numbers, constants and operations.
use Rattle.std.proofs.Common.{◌≡◌, ℕ, ◌-◌, ◌^◌, ◌<◌, ◌≤◌, true, nat_lt, List, [], ◌∷◌, ◌++◌, refl, ap, ◌∙◌, arith, codes, ℤ}
use Rattle.std.specs.Fmt.{decimal, signed_decimal}
use Rattle.std.specs.List.{list_all, AllByRecursion}
use Rattle.std.proofs.lemmas.Bool.{and_parts, cond_both}
use Rattle.std.proofs.lemmas.List.{append_assoc}
use Rattle.mlir_lex.specs.declared.TokenKind.TheVariants.{Word, Int, Value, TypeName, Text, Sign}
use Rattle.mlir_lex.specs.Spellings.{spells, is_blank}
use Rattle.mlir_lex.specs.Pieces.{ends_before}
use Rattle.fhe_text.specs.declared.source.WrittenType.{WrittenType}
use Rattle.fhe_text.specs.declared.source.WrittenType.TheVariants as types
use Rattle.fhe_text.specs.declared.source.OpName.{OpName}
use Rattle.fhe_text.specs.declared.source.OpName.TheVariants.{AddEint, AddEintInt, SubEint, SubEintInt, SubIntEint, NegEint, MulEintInt, Zero, ApplyLookupTable}
use Rattle.fhe_text.specs.declared.source.Entries.{Entries}
use Rattle.fhe_text.specs.declared.source.Entries.TheVariants as entries
use Rattle.fhe_text.specs.declared.source.Statement.{Statement}
use Rattle.fhe_text.specs.declared.source.Statement.TheVariants as statements
use Rattle.fhe_text.specs.Roles.{Spelled}
use Rattle.fhe_text.specs.Numbers.{fits_bits, AreBits}
use Rattle.fhe_text.specs.Conditions.{op_text, quoted, all_fit}
use Rattle.fhe_text.specs.Printing.{type_text, value_text, types_text, values_text, numbers_text, entries_text, statement_text}
use Rattle.fhe_text.specs.Spellable.{IsWritable, AreEntries, IsStatement}
use Rattle.fhe_text.proofs.Decimals.{IsShort, IsShortInt, decimal_in_word, decimal_in_value, decimal_names, decimal_int, signed_int, fits_more, fits_short}
use Rattle.fhe_text.proofs.Made.{IsMade, made_token, made_sign, made_text, made_as, list_made}
use Rattle.fhe_text.proofs.PrintedTokens.{type_tokens, types_tokens, values_tokens, numbers_tokens, entries_tokens, dense_type_tokens, computed_tokens}

-- ---- types

-- a tensor's type, behind blanks
tensor_made : (blanks : List ℕ) → list_all is_blank blanks ≡ true → (count bits : ℕ) → IsShort count → IsShort bits → {rest : List ℕ} {tokens : List Spelled} → IsMade rest tokens → IsMade (blanks ++ (codes "tensor<" ++ (decimal count ++ (codes "xi" ++ (decimal bits ++ (codes ">" ++ rest)))))) (dense_type_tokens count bits tokens)
tensor_made blanks b count bits few other m =
    made_token blanks Word (codes "tensor") b refl refl (made_sign [] (codes "<") refl refl
    (made_token [] Int (decimal count) refl (decimal_int count few) refl
    (made_token [] Word (120 ∷ 105 ∷ decimal bits) refl (decimal_in_word bits other) refl (made_sign [] (codes ">") refl refl m))))

tensor_grouped : (count bits rest : List ℕ) → (codes "tensor<" ++ (count ++ (codes "xi" ++ (bits ++ codes ">")))) ++ rest ≡ codes "tensor<" ++ (count ++ (codes "xi" ++ (bits ++ (codes ">" ++ rest))))
tensor_grouped count bits rest =
    ap (λ l. codes "tensor<" ++ l) (append_assoc count (codes "xi" ++ (bits ++ codes ">")) rest ∙ ap (λ l. count ++ (codes "xi" ++ l)) (append_assoc bits (codes ">") rest))

pub type_made : (blanks : List ℕ) → list_all is_blank blanks ≡ true → (t : WrittenType) → IsWritable t → (rest : List ℕ) (tokens : List Spelled) → ends_before Word rest ≡ true → IsMade rest tokens → IsMade (blanks ++ (type_text t ++ rest)) (type_tokens t tokens)
type_made blanks b (types.Eint width) h rest tokens e m =
    made_as (ap (λ l. blanks ++ (codes "!FHE.eint<" ++ l)) (append_assoc (decimal width) (codes ">") rest))
    (made_token blanks TypeName (codes "!FHE.eint") b refl refl (made_sign [] (codes "<") refl refl
    (made_token [] Int (decimal width) refl (decimal_int width (omega (arith, h.1))) refl (made_sign [] (codes ">") refl refl m))))
type_made blanks b (types.Int bits) h rest tokens e m = made_token blanks Word (105 ∷ decimal bits) b (decimal_in_word bits (omega (arith, h.1))) e m
type_made blanks b (types.Tensor count bits) h rest tokens e m =
    made_as (ap (λ l. blanks ++ l) (tensor_grouped (decimal count) (decimal bits) rest))
    (tensor_made blanks b count bits (omega (arith, h.0.1)) (omega (arith, h.1.1)) m)

pub types_made : (written : List WrittenType) → AllByRecursion IsWritable written → (rest : List ℕ) (tokens : List Spelled) → ends_before Word rest ≡ true → IsMade rest tokens → IsMade (types_text written ++ rest) (types_tokens written tokens)
types_made written all rest tokens e m = list_made type_text type_tokens IsWritable Word type_made refl written all rest tokens e m

-- ---- values

-- few enough that each has a name of its own
pub name_is : (args value : ℕ) → IsShort value → spells Value (value_text args value) ≡ true
name_is args value few =
    cond_both (nat_lt value args) (codes "%arg" ++ decimal value) (codes "%" ++ decimal (value - args)) (λ text. spells Value text ≡ true)
    (λ e. decimal_in_value value few) (λ e. decimal_names (value - args) (omega (arith, few)))

pub value_made : (args : ℕ) (blanks : List ℕ) → list_all is_blank blanks ≡ true → (value : ℕ) → IsShort value → (rest : List ℕ) (tokens : List Spelled) → ends_before Value rest ≡ true → IsMade rest tokens → IsMade (blanks ++ (value_text args value ++ rest)) ((Value, value_text args value) ∷ tokens)
value_made args blanks b value few rest tokens e m = made_token blanks Value (value_text args value) b (name_is args value few) e m

pub values_made : (args : ℕ) (values : List ℕ) → AllByRecursion IsShort values → (rest : List ℕ) (tokens : List Spelled) → ends_before Value rest ≡ true → IsMade rest tokens → IsMade (values_text args values ++ rest) (values_tokens args values tokens)
values_made args values all rest tokens e m =
    list_made (value_text args) (λ v more. (Value, value_text args v) ∷ more) IsShort Value (value_made args) refl values all rest tokens e m

-- ---- numbers

number_made : (blanks : List ℕ) → list_all is_blank blanks ≡ true → (z : ℤ) → IsShortInt z → (rest : List ℕ) (tokens : List Spelled) → ends_before Int rest ≡ true → IsMade rest tokens → IsMade (blanks ++ (signed_decimal z ++ rest)) ((Int, signed_decimal z) ∷ tokens)
number_made blanks b z few rest tokens e m = made_token blanks Int (signed_decimal z) b (signed_int z few) e m

numbers_made : (numbers : List ℤ) → AllByRecursion IsShortInt numbers → (rest : List ℕ) (tokens : List Spelled) → ends_before Int rest ≡ true → IsMade rest tokens → IsMade (numbers_text numbers ++ rest) (numbers_tokens numbers tokens)
numbers_made numbers all rest tokens e m = list_made signed_decimal (λ z more. (Int, signed_decimal z) ∷ more) IsShortInt Int number_made refl numbers all rest tokens e m

-- numbers that few bits hold are short
pub held_short : (bits : ℕ) (z : ℤ) → AreBits bits → fits_bits bits z ≡ true → IsShortInt z
held_short bits z h fits = fits_short z (fits_more bits 128 z (omega (arith, h.1)) fits)

all_short : (bits : ℕ) (numbers : List ℤ) → AreBits bits → all_fit bits numbers ≡ true → AllByRecursion IsShortInt numbers
all_short bits [] h fit = tt
all_short bits (z ∷ numbers) h fit =
    let parts = and_parts (fits_bits bits z) (all_fit bits numbers) fit in
    (held_short bits z h parts.0, all_short bits numbers h parts.1)

entries_grouped : (numbers rest : List ℕ) → (codes "[" ++ (numbers ++ codes "]")) ++ rest ≡ codes "[" ++ (numbers ++ (codes "]" ++ rest))
entries_grouped numbers rest = ap (λ l. codes "[" ++ l) (append_assoc numbers (codes "]") rest)

entries_made : (count bits : ℕ) (found : Entries) → AreBits bits → AreEntries count bits found → (rest : List ℕ) (tokens : List Spelled) → ends_before Int rest ≡ true → IsMade rest tokens → IsMade (entries_text found ++ rest) (entries_tokens found tokens)
entries_made count bits (entries.List numbers) few h rest tokens e m =
    made_as (entries_grouped (numbers_text numbers) rest)
    (made_sign [] (codes "[") refl refl (numbers_made numbers (all_short bits numbers few h.1) (codes "]" ++ rest) ((Sign, codes "]") ∷ tokens) refl (made_sign [] (codes "]") refl refl m)))
entries_made count bits (entries.Splat value) few h rest tokens e m = number_made [] refl value (held_short bits value few h) rest tokens e m

-- ---- statements

-- a name of an operation in quotes
op_is : (name : OpName) → spells Text (quoted (op_text name)) ≡ true
op_is AddEint = refl
op_is AddEintInt = refl
op_is SubEint = refl
op_is SubEintInt = refl
op_is SubIntEint = refl
op_is NegEint = refl
op_is MulEintInt = refl
op_is Zero = refl
op_is ApplyLookupTable = refl

-- values that are defined before are few
pub few_defined : (most few : ℕ) (values : List ℕ) → most ≤ few → AllByRecursion (λ v. v < most) values → AllByRecursion (λ v. v < few) values
few_defined most few [] le all = tt
few_defined most few (v ∷ values) le all = (omega (arith, le, all.0), few_defined most few values le all.1)

constant_grouped : (value bits rest : List ℕ) → (codes "arith.constant " ++ (value ++ (codes " : i" ++ bits))) ++ rest ≡ codes "arith.constant " ++ (value ++ (codes " : i" ++ (bits ++ rest)))
constant_grouped value bits rest = ap (λ l. codes "arith.constant " ++ l) (append_assoc value (codes " : i" ++ bits) rest)

dense_grouped : (found count bits rest : List ℕ) → (codes "arith.constant dense<" ++ (found ++ (codes "> : tensor<" ++ (count ++ (codes "xi" ++ (bits ++ codes ">")))))) ++ rest ≡ codes "arith.constant dense<" ++ (found ++ (codes "> : " ++ (codes "tensor<" ++ (count ++ (codes "xi" ++ (bits ++ (codes ">" ++ rest)))))))
dense_grouped found count bits rest =
    ap (λ l. codes "arith.constant dense<" ++ l) (append_assoc found (codes "> : tensor<" ++ (count ++ (codes "xi" ++ (bits ++ codes ">")))) rest
    ∙ ap (λ l. found ++ (codes "> : " ++ l)) (tensor_grouped count bits rest))

op_grouped : (name operands written result rest : List ℕ) → (name ++ (codes "(" ++ (operands ++ (codes ") : (" ++ (written ++ (codes ") -> " ++ result)))))) ++ rest ≡ name ++ (codes "(" ++ (operands ++ (codes ") : (" ++ (written ++ (codes ") -> " ++ (result ++ rest))))))
op_grouped name operands written result rest =
    append_assoc name (codes "(" ++ (operands ++ (codes ") : (" ++ (written ++ (codes ") -> " ++ result))))) rest
    ∙ ap (λ l. name ++ (codes "(" ++ l)) (append_assoc operands (codes ") : (" ++ (written ++ (codes ") -> " ++ result))) rest
    ∙ ap (λ l. operands ++ (codes ") : (" ++ l)) (append_assoc written (codes ") -> " ++ result) rest))

-- what a statement computes, behind blanks
pub computed_made : (args before : ℕ) (statement : Statement) → IsShort before → IsStatement before statement → (rest : List ℕ) (tokens : List Spelled) → ends_before Word rest ≡ true → IsMade rest tokens → IsMade (codes " " ++ (statement_text args statement ++ rest)) (computed_tokens args statement tokens)
computed_made args before (statements.Int value bits) few h rest tokens e m =
    made_as (ap (λ l. codes " " ++ l) (constant_grouped (signed_decimal value) (decimal bits) rest))
    (made_token (codes " ") Word (codes "arith.constant") refl refl refl
    (made_token (codes " ") Int (signed_decimal value) refl (signed_int value (held_short bits value h.0 h.1)) refl
    (made_sign (codes " ") (codes ":") refl refl (made_token (codes " ") Word (105 ∷ decimal bits) refl (decimal_in_word bits (omega (arith, h.0.1))) e m))))
computed_made args before (statements.Dense found count bits) few h rest tokens e m =
    made_as (ap (λ l. codes " " ++ l) (dense_grouped (entries_text found) (decimal count) (decimal bits) rest))
    (made_token (codes " ") Word (codes "arith.constant") refl refl refl (made_token (codes " ") Word (codes "dense") refl refl refl (made_sign [] (codes "<") refl refl
    (entries_made count bits found h.1 h.2 (codes "> : " ++ (codes "tensor<" ++ (decimal count ++ (codes "xi" ++ (decimal bits ++ (codes ">" ++ rest)))))) ((Sign, codes ">") ∷ (Sign, codes ":") ∷ dense_type_tokens count bits tokens) refl
    (made_sign [] (codes ">") refl refl (made_sign (codes " ") (codes ":") refl refl (tensor_made (codes " ") refl count bits (omega (arith, h.0.1)) (omega (arith, h.1.1)) m)))))))
computed_made args before (statements.Op name operands written result) few h rest tokens e m =
    made_as (ap (λ l. codes " " ++ l) (op_grouped (quoted (op_text name)) (values_text args operands) (types_text written) (type_text result) rest))
    (made_text (codes " ") (quoted (op_text name)) refl (op_is name) (made_sign [] (codes "(") refl refl
    (values_made args operands (few_defined before (10 ^ 64) operands (omega (arith, few)) h.0) (codes ") : (" ++ (types_text written ++ (codes ") -> " ++ (type_text result ++ rest)))) ((Sign, codes ")") ∷ (Sign, codes ":") ∷ (Sign, codes "(") ∷ types_tokens written ((Sign, codes ")") ∷ (Sign, codes "->") ∷ type_tokens result tokens)) refl
    (made_sign [] (codes ")") refl refl (made_sign (codes " ") (codes ":") refl refl (made_sign (codes " ") (codes "(") refl refl
    (types_made written h.1 (codes ") -> " ++ (type_text result ++ rest)) ((Sign, codes ")") ∷ (Sign, codes "->") ∷ type_tokens result tokens) refl
    (made_sign [] (codes ")") refl refl (made_sign (codes " ") (codes "->") refl refl (type_made (codes " ") refl result h.2 rest tokens e m))))))))))
