-- A source that is read keeps the rules of sources.
use Rattle.std.proofs.Common.{◌≡◌, ℕ, ◌+◌, ◌<◌, ◌==◌, Bool, true, false, cond, List, [], ◌∷◌, ◌++◌, length, refl, sym, subst, arith, codes, ℤ, Some, None, Option, Ok, Err, inl, inr, length-append}
use Rattle.std.specs.Prelude.{is_none}
use Rattle.std.specs.List.{AllByRecursion}
use Rattle.std.specs.Str.{bytes_eq}
use Rattle.std.proofs.lemmas.Bool.{and_parts, or_cases, eqb-true}
use Rattle.std.proofs.lemmas.List.Quantifiers.{position-Some}
use Rattle.refusals.specs.Reading.{◌>>=◌}
use Rattle.mlir_lex.specs.declared.TokenKind.TheVariants.{Word, Int, Value, TypeName, Sign}
use Rattle.fhe_text.specs.declared.source.WrittenType.{WrittenType}
use Rattle.fhe_text.specs.declared.source.WrittenType.TheVariants as types
use Rattle.fhe_text.specs.declared.source.Arg.{Arg}
use Rattle.fhe_text.specs.declared.source.Entries.{Entries}
use Rattle.fhe_text.specs.declared.source.Entries.TheVariants as entries
use Rattle.fhe_text.specs.declared.source.Statement.{Statement}
use Rattle.fhe_text.specs.declared.source.Statement.TheVariants as statements
use Rattle.fhe_text.specs.declared.source.Source.{Source}
use Rattle.fhe_text.specs.declared.fault.TextKind.TheVariants as kinds
use Rattle.fhe_text.specs.Roles.{Spelled, word, eint_name, argument_entry, range_word, function_name}
use Rattle.fhe_text.specs.Numbers.{fits_bits, signed_of, width_of, length_of, itype_of, xtype_of, AreBits}
use Rattle.fhe_text.specs.Conditions.{all_fit, is_length_of}
use Rattle.fhe_text.specs.Spellable.{IsWidth, IsLength, IsEncrypted, IsWritable, IsDeclared, IsArgument, AreEntries, AreDefined, IsStatement, AreStatements, AreSome, IsSpellable}
use Rattle.fhe_text.specs.Descent.{Read, wrong_at, stands, kind_stands, kind_at, role_at, sign_at, length_at, width_at, itype_at, xtype_at, etype_at, tensor_at, type_at, next_type_at, types_at, maybe_types_at, next_etype_at, etypes_at, result_types_at, range_end_at, range_at, entry_at, argument_entry_at, argument_dict_at, declared_at, new_name_at, arg_at, number_at, scalar_constant_at, next_number_at, numbers_at, list_at, entries_at, item_count, entry_numbers, dense_length_at, dense_cell_at, dense_type_at, dense_constant_at, constant_at, op_at, number_among, known_name_at, next_value_at, values_at, operation_dict_at, result_at, operands_at, signature_at, applied_at, computed_at, statement_at, next_statement_at, statements_at, return_word_at, return_at, next_arg_at, args_at, body_at, func_at, module_at, unit_at, source_at}
use Rattle.fhe_text.proofs.Keeps.{Keeps, value_kept, refused_kept, then_kept, after_kept, cond_kept, some_kept, weaker_kept, many_kept, listed_kept, maybe_kept, all_push, width_taken, length_taken, itype_taken, xtype_taken, signed_taken}

-- ---- types

width_keeps : (tokens : List Spelled) → Keeps IsWidth (width_at tokens)
unfolding width_at
width_keeps tokens = after_kept (kind_at Int tokens) (λ found. some_kept (width_of found.0) found.1 (wrong_at kinds.Syntax tokens) (width_taken found.0))

length_keeps : (tokens : List Spelled) → Keeps IsLength (length_at tokens)
unfolding length_at
length_keeps tokens = after_kept (kind_at Int tokens) (λ found. some_kept (length_of found.0) found.1 (wrong_at kinds.Shape tokens) (length_taken found.0))

itype_keeps : (tokens : List Spelled) → Keeps AreBits (itype_at tokens)
unfolding itype_at
itype_keeps tokens = after_kept (kind_at Word tokens) (λ found. some_kept (itype_of found.0) found.1 (wrong_at kinds.Syntax tokens) (itype_taken found.0))

xtype_keeps : (tokens : List Spelled) → Keeps AreBits (xtype_at tokens)
unfolding xtype_at
xtype_keeps tokens = after_kept (kind_at Word tokens) (λ found. some_kept (xtype_of found.0) found.1 (wrong_at kinds.Syntax tokens) (xtype_taken found.0))

etype_keeps : (tokens : List Spelled) → Keeps IsWidth (etype_at tokens)
unfolding etype_at
etype_keeps tokens =
    after_kept (role_at eint_name tokens) (λ name. after_kept (sign_at (codes "<") name.1) (λ open_. then_kept (width_keeps open_.1) (λ bits h. after_kept (sign_at (codes ">") bits.1) (λ close. value_kept bits.0 close.1 h))))

tensor_keeps : (tokens : List Spelled) → Keeps IsWritable (tensor_at tokens)
unfolding tensor_at
tensor_keeps tokens =
    after_kept (role_at (word (codes "tensor")) tokens) (λ name. after_kept (sign_at (codes "<") name.1) (λ open_. then_kept (length_keeps open_.1) (λ count h. then_kept (xtype_keeps count.1) (λ cell g.
    after_kept (sign_at (codes ">") cell.1) (λ close. value_kept (types.Tensor count.0 cell.0) close.1 (h, g))))))

type_keeps : (tokens : List Spelled) → Keeps IsWritable (type_at tokens)
unfolding type_at
type_keeps tokens =
    cond_kept (stands TypeName (codes "!FHE.eint") tokens) _ _ (λ e. then_kept (etype_keeps tokens) (λ x h. value_kept (types.Eint x.0) x.1 h))
    (λ e. cond_kept (stands Word (codes "tensor") tokens) _ _ (λ f. tensor_keeps tokens) (λ f. then_kept (itype_keeps tokens) (λ x h. value_kept (types.Int x.0) x.1 h)))

-- one or more of a list that grows by one
pub push_some : {X : Type 0} (Holds : X → Type 0) (xs : List X) (x : X) → AllByRecursion Holds xs → Holds x → AreSome Holds (xs ++ x ∷ [])
push_some Holds xs x all h = (omega (arith, length-append xs (x ∷ [])), all_push Holds xs x all h)

next_type_keeps : (found : List WrittenType) (tokens : List Spelled) → AllByRecursion IsWritable found → Keeps (AreSome IsWritable) (next_type_at found tokens)
unfolding next_type_at
next_type_keeps found tokens all = then_kept (type_keeps tokens) (λ x h. value_kept (found ++ x.0 ∷ []) x.1 (push_some IsWritable found x.0 all h))

types_keep : (tokens : List Spelled) → Keeps (AreSome IsWritable) (types_at tokens)
unfolding types_at
types_keep tokens = listed_kept next_type_at next_type_keeps (λ s h. h.1) [] tokens tt

maybe_types_keep : (tokens : List Spelled) → Keeps (AllByRecursion IsWritable) (maybe_types_at tokens)
unfolding maybe_types_at
maybe_types_keep tokens = maybe_kept (codes ")") next_type_at (λ s more h. weaker_kept (λ x g. g.1) (next_type_keeps s more h)) [] tokens tt

next_etype_keeps : (found : List WrittenType) (tokens : List Spelled) → AllByRecursion IsEncrypted found → Keeps (AreSome IsEncrypted) (next_etype_at found tokens)
unfolding next_etype_at
next_etype_keeps found tokens all = then_kept (etype_keeps tokens) (λ x h. value_kept (found ++ types.Eint x.0 ∷ []) x.1 (push_some IsEncrypted found (types.Eint x.0) all h))

etypes_keep : (tokens : List Spelled) → Keeps (AreSome IsEncrypted) (etypes_at tokens)
unfolding etypes_at
etypes_keep tokens = listed_kept next_etype_at next_etype_keeps (λ s h. h.1) [] tokens tt

results_keep : (tokens : List Spelled) → Keeps (AreSome IsEncrypted) (result_types_at tokens)
unfolding result_types_at
results_keep tokens =
    cond_kept (stands Sign (codes "(") tokens) _ _
    (λ e. after_kept (sign_at (codes "(") tokens) (λ open_. then_kept (etypes_keep open_.1) (λ found h. after_kept (sign_at (codes ")") found.1) (λ close. value_kept found.0 close.1 h))))
    (λ e. next_etype_keeps [] tokens tt)

-- ---- arguments

end_keeps : (tokens : List Spelled) → Keeps (λ z. fits_bits 128 z ≡ true) (range_end_at tokens)
unfolding range_end_at
end_keeps tokens = after_kept (kind_at Int tokens) (λ found. some_kept (signed_of 128 found.0) found.1 (wrong_at kinds.Constant tokens) (signed_taken 128 found.0))

range_keeps : (tokens : List Spelled) → Keeps (λ (range : ℤ × ℤ). IsDeclared (Some range)) (range_at tokens)
unfolding range_at
range_keeps tokens =
    after_kept (role_at range_word tokens) (λ name. after_kept (sign_at (codes "=") name.1) (λ equal. after_kept (sign_at (codes "[") equal.1) (λ open_.
    then_kept (end_keeps open_.1) (λ low h. after_kept (sign_at (codes ",") low.1) (λ comma. then_kept (end_keeps comma.1) (λ high g.
    after_kept (sign_at (codes "]") high.1) (λ close. value_kept (low.0, high.0) close.1 (h, g))))))))

entry_keeps : (declared : Option (ℤ × ℤ)) (tokens : List Spelled) → IsDeclared declared → Keeps IsDeclared (argument_entry_at declared tokens)
unfolding argument_entry_at
entry_keeps declared tokens h =
    cond_kept (stands Word (codes "fhec.range") tokens) _ _
    (λ e. cond_kept (is_none declared) _ _ (λ f. then_kept (range_keeps tokens) (λ x g. value_kept (Some x.0) x.1 g)) (λ f. refused_kept (wrong_at kinds.Syntax tokens)))
    (λ e. after_kept (entry_at argument_entry tokens) (λ x. value_kept declared x.1 h))

dict_keeps : (tokens : List Spelled) → Keeps IsDeclared (argument_dict_at tokens)
unfolding argument_dict_at
dict_keeps tokens =
    after_kept (sign_at (codes "{") tokens) (λ open_. then_kept (maybe_kept (codes "}") argument_entry_at entry_keeps None open_.1 tt) (λ declared h.
    after_kept (sign_at (codes "}") declared.1) (λ close. value_kept declared.0 close.1 h)))

declared_keeps : (tokens : List Spelled) → Keeps IsDeclared (declared_at tokens)
unfolding declared_at
declared_keeps tokens = cond_kept (stands Sign (codes "{") tokens) _ _ (λ e. dict_keeps tokens) (λ e. value_kept None tokens tt)

-- one name more, and an argument
abbrev IsNamed : ℕ → List (List ℕ) × Arg → Type 0
IsNamed count found = (length found.0 ≡ count + 1) × IsArgument found.1

arg_keeps : (names : List (List ℕ)) (tokens : List Spelled) → Keeps (IsNamed (length names)) (arg_at names tokens)
unfolding arg_at
arg_keeps names tokens =
    after_kept (new_name_at names tokens) (λ name. after_kept (sign_at (codes ":") name.1) (λ colon. then_kept (etype_keeps colon.1) (λ bits h. then_kept (declared_keeps bits.1) (λ declared g.
    value_kept (names ++ name.0 ∷ [], record { ty = types.Eint bits.0; declared = declared.0 }) declared.1 (length-append names (name.0 ∷ []), (h, g))))))

-- the arguments so far, each with its name
abbrev AreArgs : List (List ℕ) × List Arg → Type 0
AreArgs state = (length state.0 ≡ length state.1) × AllByRecursion IsArgument state.1

next_arg_keeps : (state : List (List ℕ) × List Arg) (tokens : List Spelled) → AreArgs state → Keeps AreArgs (next_arg_at state tokens)
unfolding next_arg_at
next_arg_keeps state tokens h =
    then_kept (arg_keeps state.0 tokens) (λ x g. value_kept (x.0.0, state.1 ++ x.0.1 ∷ []) x.1
    (let more : length (state.1 ++ x.0.1 ∷ []) ≡ length state.1 + 1 = length-append state.1 (x.0.1 ∷ []) in omega (arith, more, g.0, h.0), all_push IsArgument state.1 x.0.1 h.1 g.1))

args_keep : (tokens : List Spelled) → Keeps AreArgs (args_at ([], []) tokens)
unfolding args_at
args_keep tokens =
    after_kept (sign_at (codes "(") tokens) (λ open_. then_kept (maybe_kept (codes ")") next_arg_at next_arg_keeps ([], []) open_.1 (refl, tt)) (λ found h.
    after_kept (sign_at (codes ")") found.1) (λ close. value_kept found.0 close.1 h)))

-- ---- constants

scalar_keeps : (before : ℕ) (tokens : List Spelled) → Keeps (IsStatement before) (scalar_constant_at tokens)
unfolding scalar_constant_at
scalar_keeps before tokens =
    after_kept (number_at tokens) (λ value. after_kept (sign_at (codes ":") value.1) (λ colon. then_kept (itype_keeps colon.1) (λ bits h.
    cond_kept (fits_bits bits.0 value.0) _ _ (λ e. value_kept (statements.Int value.0 bits.0) bits.1 (h, e)) (λ e. refused_kept (wrong_at kinds.Constant colon.1)))))

next_number_keeps : (found : List ℤ) (tokens : List Spelled) → Unit {0} → Keeps (λ (numbers : List ℤ). 0 < length numbers) (next_number_at found tokens)
unfolding next_number_at
next_number_keeps found tokens h = after_kept (number_at tokens) (λ x. value_kept (found ++ x.0 ∷ []) x.1 (omega (arith, length-append found (x.0 ∷ []))))

-- a list has an entry
abbrev HasEntries : Entries → Type 0
HasEntries (entries.List numbers) = 0 < length numbers
HasEntries (entries.Splat value) = Unit {0}

numbers_keep : (tokens : List Spelled) → Keeps (λ (numbers : List ℤ). 0 < length numbers) (numbers_at tokens)
unfolding numbers_at
numbers_keep tokens = listed_kept next_number_at next_number_keeps (λ s h. tt) [] tokens tt

list_keeps : (tokens : List Spelled) → Keeps (λ (numbers : List ℤ). 0 < length numbers) (list_at tokens)
unfolding list_at
list_keeps tokens = after_kept (sign_at (codes "[") tokens) (λ open_. then_kept (numbers_keep open_.1) (λ found h. after_kept (sign_at (codes "]") found.1) (λ close. value_kept found.0 close.1 h)))

entries_keep : (tokens : List Spelled) → Keeps HasEntries (entries_at tokens)
unfolding entries_at
entries_keep tokens =
    cond_kept (stands Sign (codes "[") tokens) _ _ (λ e. then_kept (list_keeps tokens) (λ x h. value_kept (entries.List x.0) x.1 h)) (λ e. after_kept (number_at tokens) (λ x. value_kept (entries.Splat x.0) x.1 tt))

dense_length_keeps : (items : ℕ) (tokens : List Spelled) → Keeps (λ count. IsLength count × (is_length_of items count ≡ true)) (dense_length_at items tokens)
unfolding dense_length_at
dense_length_keeps items tokens =
    then_kept (length_keeps tokens) (λ count h. cond_kept (is_length_of items count.0) _ _ (λ e. value_kept count.0 count.1 (h, e)) (λ e. refused_kept (wrong_at kinds.Shape tokens)))

dense_cell_keeps : (numbers : List ℤ) (tokens : List Spelled) → Keeps (λ bits. AreBits bits × (all_fit bits numbers ≡ true)) (dense_cell_at numbers tokens)
unfolding dense_cell_at
dense_cell_keeps numbers tokens =
    then_kept (xtype_keeps tokens) (λ bits h. cond_kept (all_fit bits.0 numbers) _ _ (λ e. value_kept bits.0 bits.1 (h, e)) (λ e. refused_kept (wrong_at kinds.Constant tokens)))

same_length : (n count : ℕ) → 0 < n → is_length_of n count ≡ true → n ≡ count
same_length n count some e = elim (or_cases (n == 0) (n == count) e) [ inl f ↦ absurd (omega (arith, some, eqb-true n 0 f)) | inr f ↦ eqb-true n count f ]

are_entries : (count bits : ℕ) (found : Entries) → HasEntries found → is_length_of (item_count found) count ≡ true → all_fit bits (entry_numbers found) ≡ true → AreEntries count bits found
are_entries count bits (entries.List numbers) some e fit = (same_length (length numbers) count some e, fit)
are_entries count bits (entries.Splat value) some e fit = (and_parts (fits_bits bits value) true fit).0

dense_type_keeps : (before : ℕ) (found : Entries) (tokens : List Spelled) → HasEntries found → Keeps (IsStatement before) (dense_type_at found tokens)
unfolding dense_type_at
dense_type_keeps before found tokens some =
    after_kept (role_at (word (codes "tensor")) tokens) (λ name. after_kept (sign_at (codes "<") name.1) (λ open_. then_kept (dense_length_keeps (item_count found) open_.1) (λ count h.
    then_kept (dense_cell_keeps (entry_numbers found) count.1) (λ cell g. after_kept (sign_at (codes ">") cell.1) (λ close.
    value_kept (statements.Dense found count.0 cell.0) close.1 (h.0, g.0, are_entries count.0 cell.0 found some h.1 g.1))))))

dense_keeps : (before : ℕ) (tokens : List Spelled) → Keeps (IsStatement before) (dense_constant_at tokens)
unfolding dense_constant_at
dense_keeps before tokens =
    after_kept (role_at (word (codes "dense")) tokens) (λ name. after_kept (sign_at (codes "<") name.1) (λ open_. then_kept (entries_keep open_.1) (λ found h.
    after_kept (sign_at (codes ">") found.1) (λ close. after_kept (sign_at (codes ":") close.1) (λ colon. dense_type_keeps before found.0 colon.1 h)))))

constant_keeps : (before : ℕ) (tokens : List Spelled) → Keeps (IsStatement before) (constant_at tokens)
unfolding constant_at
constant_keeps before tokens =
    after_kept (role_at (word (codes "arith.constant")) tokens) (λ name. cond_kept (stands Word (codes "dense") name.1) _ _ (λ e. dense_keeps before name.1) (λ e. scalar_keeps before name.1))

-- ---- operations

known_keeps : (names : List (List ℕ)) (tokens : List Spelled) → Keeps (λ value. value < length names) (known_name_at names tokens)
unfolding known_name_at
known_keeps names tokens =
    after_kept (kind_at Value tokens) (λ found. some_kept (number_among names found.0) found.1 (wrong_at kinds.Name tokens) (λ value e. (position-Some (bytes_eq found.0) names value [] e).0))

next_value_keeps : (names : List (List ℕ)) (found : List ℕ) (tokens : List Spelled) → AreDefined (length names) found → Keeps (AreSome (λ value. value < length names)) (next_value_at names found tokens)
unfolding next_value_at
next_value_keeps names found tokens all =
    then_kept (known_keeps names tokens) (λ x h. value_kept (found ++ x.0 ∷ []) x.1 (push_some (λ value. value < length names) found x.0 all h))

values_keep : (names : List (List ℕ)) (tokens : List Spelled) → Keeps (AreSome (λ value. value < length names)) (values_at names tokens)
unfolding values_at
values_keep names tokens = listed_kept (next_value_at names) (next_value_keeps names) (λ s h. h.1) [] tokens tt

operands_keep : (names : List (List ℕ)) (tokens : List Spelled) → Keeps (AreDefined (length names)) (operands_at names tokens)
unfolding operands_at
operands_keep names tokens =
    after_kept (sign_at (codes "(") tokens) (λ open_.
    then_kept (maybe_kept (codes ")") (next_value_at names) (λ s more h. weaker_kept (λ x g. g.1) (next_value_keeps names s more h)) [] open_.1 tt) (λ found h.
    after_kept (sign_at (codes ")") found.1) (λ close. value_kept found.0 close.1 h)))

result_keeps : (tokens : List Spelled) → Keeps IsWritable (result_at tokens)
unfolding result_at
result_keeps tokens =
    cond_kept (stands Sign (codes "(") tokens) _ _
    (λ e. after_kept (sign_at (codes "(") tokens) (λ open_. then_kept (type_keeps open_.1) (λ found h. after_kept (sign_at (codes ")") found.1) (λ close. value_kept found.0 close.1 h))))
    (λ e. type_keeps tokens)

abbrev IsSignature : List WrittenType × WrittenType → Type 0
IsSignature found = AllByRecursion IsWritable found.0 × IsWritable found.1

signature_keeps : (tokens : List Spelled) → Keeps IsSignature (signature_at tokens)
unfolding signature_at
signature_keeps tokens =
    after_kept (sign_at (codes ":") tokens) (λ colon. after_kept (sign_at (codes "(") colon.1) (λ open_. then_kept (maybe_types_keep open_.1) (λ found h.
    after_kept (sign_at (codes ")") found.1) (λ close. after_kept (sign_at (codes "->") close.1) (λ arrow. then_kept (result_keeps arrow.1) (λ result g.
    value_kept (found.0, result.0) result.1 (h, g)))))))

applied_keeps : (names : List (List ℕ)) (tokens : List Spelled) → Keeps (IsStatement (length names)) (applied_at names tokens)
unfolding applied_at
applied_keeps names tokens =
    after_kept (op_at tokens) (λ name. then_kept (operands_keep names name.1) (λ operands h. after_kept (operation_dict_at operands.1) (λ rest. then_kept (signature_keeps rest.1) (λ signature g.
    value_kept (statements.Op name.0 operands.0 signature.0.0 signature.0.1) signature.1 (h, g.0, g.1)))))

-- ---- statements

computed_keeps : (names : List (List ℕ)) (tokens : List Spelled) → Keeps (IsStatement (length names)) (computed_at names tokens)
unfolding computed_at
computed_keeps names tokens =
    cond_kept (stands Word (codes "arith.constant") tokens) _ _ (λ e. constant_keeps (length names) tokens) (λ e. applied_keeps names tokens)

-- one name more, and a statement behind the others
abbrev IsNext : ℕ → List (List ℕ) × Statement → Type 0
IsNext count found = (length found.0 ≡ count + 1) × IsStatement count found.1

statement_keeps : (names : List (List ℕ)) (tokens : List Spelled) → Keeps (IsNext (length names)) (statement_at names tokens)
unfolding statement_at
statement_keeps names tokens =
    after_kept (new_name_at names tokens) (λ name. after_kept (sign_at (codes "=") name.1) (λ equal. then_kept (computed_keeps names equal.1) (λ computed h.
    value_kept (names ++ name.0 ∷ [], computed.0) computed.1 (length-append names (name.0 ∷ []), h))))

statements_push : (before : ℕ) (body : List Statement) (statement : Statement) (count : ℕ) → AreStatements before body → before + length body ≡ count → IsStatement count statement → AreStatements before (body ++ statement ∷ [])
statements_push before [] statement count all e h = let same : count ≡ before = omega (arith, e) in (subst (λ (n : ℕ). IsStatement n statement) same h, tt)
statements_push before (s ∷ body) statement count all e h = (all.0, statements_push (before + 1) body statement count all.1 (omega (arith, e)) h)

-- the statements so far, behind so many arguments
abbrev AreBody : ℕ → List (List ℕ) × List Statement → Type 0
AreBody args state = (length state.0 ≡ args + length state.1) × AreStatements args state.1

next_statement_keeps : (args : ℕ) (state : List (List ℕ) × List Statement) (tokens : List Spelled) → AreBody args state → Keeps (AreBody args) (next_statement_at state tokens)
unfolding next_statement_at
next_statement_keeps args state tokens h =
    then_kept (statement_keeps state.0 tokens) (λ x g. value_kept (x.0.0, state.1 ++ x.0.1 ∷ []) x.1
    (let more : length (state.1 ++ x.0.1 ∷ []) ≡ length state.1 + 1 = length-append state.1 (x.0.1 ∷ []) in omega (arith, more, g.0, h.0), statements_push args state.1 x.0.1 (length state.0) h.1 (sym h.0) g.1))

statements_keep : (args : ℕ) (names : List (List ℕ)) (tokens : List Spelled) → length names ≡ args → Keeps (AreBody args) (statements_at (names, []) tokens)
unfolding statements_at
statements_keep args names tokens e = many_kept (kind_stands Value) next_statement_at (next_statement_keeps args) (length tokens) (names, []) tokens (omega (arith, e), tt)

-- ---- the return and the function

abbrev IsReturn : ℕ → List ℕ × List WrittenType → Type 0
IsReturn count found = AreSome (λ value. value < count) found.0 × AreSome IsWritable found.1

return_keeps : (names : List (List ℕ)) (tokens : List Spelled) → Keeps (IsReturn (length names)) (return_at names tokens)
unfolding return_at
return_keeps names tokens =
    after_kept (return_word_at names tokens) (λ found. then_kept (values_keep names found.1) (λ values h. after_kept (sign_at (codes ":") values.1) (λ colon. then_kept (types_keep colon.1) (λ written g.
    value_kept (values.0, written.0) written.1 (h, g)))))

abbrev IsBody : ℕ → List Statement × (List ℕ × List WrittenType) → Type 0
IsBody args found = AreStatements args found.0 × IsReturn (args + length found.0) found.1

body_keeps : (args : ℕ) (names : List (List ℕ)) (tokens : List Spelled) → length names ≡ args → Keeps (IsBody args) (body_at names tokens)
unfolding body_at
body_keeps args names tokens e =
    after_kept (sign_at (codes "{") tokens) (λ open_. then_kept (statements_keep args names open_.1 e) (λ found h. then_kept (return_keeps found.0.0 found.1) (λ last g.
    after_kept (sign_at (codes "}") last.1) (λ close. value_kept (found.0.1, last.0) close.1 (h.1, subst (λ (n : ℕ). IsReturn n last.0) h.0 g)))))

func_keeps : (tokens : List Spelled) → Keeps IsSpellable (func_at tokens)
unfolding func_at
func_keeps tokens =
    after_kept (role_at (word (codes "func.func")) tokens) (λ name. after_kept (role_at function_name name.1) (λ symbol. then_kept (args_keep symbol.1) (λ args h. after_kept (sign_at (codes "->") args.1) (λ arrow.
    then_kept (results_keep arrow.1) (λ results g. then_kept (body_keeps (length args.0.1) args.0.0 results.1 h.0) (λ body k.
    value_kept (record { args = args.0.1; results = results.0; body = body.0.0; returned = body.0.1.0; returned_types = body.0.1.1 }) body.1
    (record { args = h.1; results = g; body = k.0; returned = k.1.0; returned_types = k.1.1 })))))))

module_keeps : (tokens : List Spelled) → Keeps IsSpellable (module_at tokens)
unfolding module_at
module_keeps tokens =
    after_kept (role_at (word (codes "module")) tokens) (λ name. after_kept (sign_at (codes "{") name.1) (λ open_. then_kept (func_keeps open_.1) (λ source h.
    after_kept (sign_at (codes "}") source.1) (λ close. value_kept source.0 close.1 h))))

unit_keeps : (tokens : List Spelled) → Keeps IsSpellable (unit_at tokens)
unfolding unit_at
unit_keeps tokens = cond_kept (stands Word (codes "module") tokens) _ _ (λ e. module_keeps tokens) (λ e. func_keeps tokens)

-- a source that is read keeps the rules
pub source_keeps : (tokens : List Spelled) (source : Source) → source_at tokens ≡ Ok source → IsSpellable source
unfolding source_at
source_keeps tokens source e = by_unit (unit_at tokens) (unit_keeps tokens) e
  where
    by_rest : (x : Source × List Spelled) (test : Bool) → IsSpellable x.0 → cond test (Ok x.0) (Err (wrong_at kinds.Syntax x.1)) ≡ Ok source → IsSpellable source
    by_rest x true h f = let same : x.0 ≡ source = cc in subst IsSpellable same h
    by_rest x false h f = absurd cc

    by_unit : (read : Read Source) → Keeps IsSpellable read → (read >>= λ x. cond (length x.1 == 0) (Ok x.0) (Err (wrong_at kinds.Syntax x.1))) ≡ Ok source → IsSpellable source
    by_unit (Ok x) h f = by_rest x (length x.1 == 0) h.kept f
    by_unit (Err wrong) h f = absurd cc
