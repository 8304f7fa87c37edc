-- The reader's productions of types against the tokens in their roles.
use Rattle.std.proofs.Common.{ℕ, List, [], ◌∷◌, ◌++◌, refl, sym, ap, ◌∙◌, codes}
use Rattle.std.proofs.lemmas.Bool.{cond-true}
use Rattle.mlir_lex.specs.declared.TokenKind.TheVariants.{Word, TypeName}
use Rattle.fhe_text.specs.declared.source.WrittenType.{WrittenType}
use Rattle.fhe_text.specs.declared.source.WrittenType.TheVariants as types
use Rattle.fhe_text.specs.Numbers.{width_of, length_of, itype_of, xtype_of, or_zero}
use Rattle.fhe_text.specs.Patterns.{token}
use Rattle.fhe_text.specs.Roles.{Spelled, Place, word, sign, eint_name, width, scalar, tensor_length, tensor_cell}
use Rattle.fhe_text.specs.Grammar.{etype, tensor, any_type}
use Rattle.fhe_text.specs.Conditions.{Part}
use Rattle.fhe_text.specs.Program.{is_place, types_in}
use Rattle.fhe_text.specs.Descent.{sign_at, stands, length_at, width_at, itype_at, xtype_at, etype_at, tensor_at, type_at}
use Rattle.fhe_text.proofs.Going.{IsReadBy, IsToken, IsSpelledBy, plain_token, formed_token, judged_token, then_read, value_read, fit_read}
use Rattle.fhe_text.proofs.Choosing.{begins_one, first_read}
use Rattle.fhe_text.proofs.Adding.{Adds, adds_both, no_types, same_place}

-- a sign
pub sign_read : (text : List ℕ) (before : List Part) (tokens : List Spelled) → IsReadBy (token (sign text)) before tokens (IsToken (sign text)) (sign_at text tokens)
unfolding sign_at
sign_read text before tokens = plain_token (sign text) before tokens (λ t. refl)

-- a type at the place
abbrev pub IsType : Place → WrittenType → List Part → Type 0
IsType place written parts = Adds (types_in place) parts (written ∷ [])

-- a width tells an encrypted type
width_adds : (place : Place) (bits : ℕ) (parts : List Part) → IsSpelledBy (width place) width_of bits parts → IsType place (types.Eint bits) parts
width_adds place bits parts h = record {
  adds = λ rest. ap (λ ps. types_in place (ps ++ rest)) h.parts_are
      ∙ ap (λ l. l ++ types_in place rest) (cond-true (is_place place place) (types.Eint (or_zero (width_of h.found.1)) ∷ []) [] (same_place place))
      ∙ ap (λ n. types.Eint n ∷ types_in place rest) (ap or_zero (sym h.value_is));
}

width_read : (place : Place) (before : List Part) (tokens : List Spelled) → IsReadBy (token (width place)) before tokens (λ bits parts. IsType place (types.Eint bits) parts) (width_at tokens)
unfolding width_at
width_read place before tokens =
    fit_read (formed_token (width place) before tokens width_of (λ t. refl) (λ t. refl)) (λ bits parts whole h. width_adds place bits parts h)

pub etype_read : (place : Place) (before : List Part) (tokens : List Spelled) → IsReadBy (etype place) before tokens (λ bits parts. IsType place (types.Eint bits) parts) (etype_at tokens)
unfolding etype_at
etype_read place before tokens =
    then_read (plain_token eint_name before tokens (λ t. refl)) (λ name a wa fa.
    then_read (sign_read (codes "<") (before ++ a) name.1) (λ open_ b wb fb.
    then_read (width_read place ((before ++ a) ++ b) open_.1) (λ bits c wc fc.
    value_read (sign_read (codes ">") (((before ++ a) ++ b) ++ c) bits.1) (λ close. (
      bits.0,
      refl,
      λ d wd fd.
          adds_both (no_types (token eint_name) place a refl wa) (adds_both (no_types (token (sign (codes "<"))) place b refl wb) (adds_both fc (no_types (token (sign (codes ">"))) place d refl wd))),
    )))))

-- an itype tells a type
scalar_adds : (place : Place) (bits : ℕ) (parts : List Part) → IsSpelledBy (scalar place) itype_of bits parts → IsType place (types.Int bits) parts
scalar_adds place bits parts h = record {
  adds = λ rest. ap (λ ps. types_in place (ps ++ rest)) h.parts_are
      ∙ ap (λ l. l ++ types_in place rest) (cond-true (is_place place place) (types.Int (or_zero (itype_of h.found.1)) ∷ []) [] (same_place place))
      ∙ ap (λ n. types.Int n ∷ types_in place rest) (ap or_zero (sym h.value_is));
}

scalar_read : (place : Place) (before : List Part) (tokens : List Spelled) → IsReadBy (token (scalar place)) before tokens (λ bits parts. IsType place (types.Int bits) parts) (itype_at tokens)
unfolding itype_at
scalar_read place before tokens =
    fit_read (formed_token (scalar place) before tokens itype_of (λ t. refl) (λ t. refl)) (λ bits parts whole h. scalar_adds place bits parts h)

-- a length and an xtype tell a tensor
tensor_adds : (place : Place) (count bits : ℕ) (a b c : List Part) → IsSpelledBy (tensor_length place) length_of count a → IsSpelledBy (tensor_cell place) xtype_of bits b → Adds (types_in place) c [] → IsType place (types.Tensor count bits) (a ++ (b ++ c))
tensor_adds place count bits a b c long cell last = record {
  adds = λ rest. ap (λ ps. types_in place ((ps ++ (b ++ c)) ++ rest)) long.parts_are ∙ ap (λ ps. types_in place ((tensor_length place, long.found) ∷ ((ps ++ c) ++ rest))) cell.parts_are
      ∙ ap (λ l. l ++ types_in place (c ++ rest)) (cond-true (is_place place place) (types.Tensor (or_zero (length_of long.found.1)) (or_zero (xtype_of cell.found.1)) ∷ []) [] (same_place place))
      ∙ ap (λ n. types.Tensor (or_zero n) (or_zero (xtype_of cell.found.1)) ∷ types_in place (c ++ rest)) (sym long.value_is)
      ∙ ap (λ n. types.Tensor count (or_zero n) ∷ types_in place (c ++ rest)) (sym cell.value_is)
      ∙ ap (λ l. types.Tensor count bits ∷ l) (last.adds rest);
}

length_read : (place : Place) (before : List Part) (tokens : List Spelled) → IsReadBy (token (tensor_length place)) before tokens (IsSpelledBy (tensor_length place) length_of) (length_at tokens)
unfolding length_at
length_read place before tokens = judged_token (tensor_length place) before tokens length_of (λ t. refl) (λ t. refl)

cell_read : (place : Place) (before : List Part) (tokens : List Spelled) → IsReadBy (token (tensor_cell place)) before tokens (IsSpelledBy (tensor_cell place) xtype_of) (xtype_at tokens)
unfolding xtype_at
cell_read place before tokens = formed_token (tensor_cell place) before tokens xtype_of (λ t. refl) (λ t. refl)

tensor_read : (place : Place) (before : List Part) (tokens : List Spelled) → IsReadBy (tensor place) before tokens (IsType place) (tensor_at tokens)
unfolding tensor_at
tensor_read place before tokens =
    then_read (plain_token (word (codes "tensor")) before tokens (λ t. refl)) (λ name a wa fa.
    then_read (sign_read (codes "<") (before ++ a) name.1) (λ open_ b wb fb.
    then_read (length_read place ((before ++ a) ++ b) open_.1) (λ count c wc fc.
    then_read (cell_read place (((before ++ a) ++ b) ++ c) count.1) (λ cell d wd fd.
    value_read (sign_read (codes ">") ((((before ++ a) ++ b) ++ c) ++ d) cell.1) (λ close. (
      types.Tensor count.0 cell.0,
      refl,
      λ e we fe.
          adds_both (no_types (token (word (codes "tensor"))) place a refl wa) (adds_both (no_types (token (sign (codes "<"))) place b refl wb)
          (tensor_adds place count.0 cell.0 c d e fc fd (no_types (token (sign (codes ">"))) place e refl we))),
    ))))))

-- any type
pub type_read : (place : Place) (before : List Part) (tokens : List Spelled) → IsReadBy (any_type place) before tokens (IsType place) (type_at tokens)
unfolding type_at
type_read place before tokens =
    first_read (begins_one (etype place) eint_name (λ ts. stands TypeName (codes "!FHE.eint") ts) refl refl (λ next rest. refl) tokens) refl
    (λ e. value_read (etype_read place before tokens) (λ x. (types.Eint x.0, refl, λ parts whole h. h)))
    (λ e. first_read (begins_one (tensor place) (word (codes "tensor")) (λ ts. stands Word (codes "tensor") ts) refl refl (λ next rest. refl) tokens) refl
    (λ f. tensor_read place before tokens)
    (λ f. value_read (scalar_read place before tokens) (λ x. (types.Int x.0, refl, λ parts whole h. h))))
