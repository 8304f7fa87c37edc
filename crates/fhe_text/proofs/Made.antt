-- Texts that are made of tokens, one token behind another, and lists of them.
use Rattle.std.proofs.Common.{◌≡◌, ℕ, ◌+◌, true, false, not, List, [], ◌∷◌, ◌++◌, map, refl, sym, ap, subst, codes}
use Rattle.std.specs.List.{list_all, flat_map, join_by, AllByRecursion}
use Rattle.std.proofs.lemmas.List.{append_assoc}
use Rattle.mlir_lex.specs.declared.TokenKind.{TokenKind}
use Rattle.mlir_lex.specs.declared.TokenKind.TheVariants.{Text, Sign}
use Rattle.mlir_lex.specs.Spellings.{spells, is_blank, is_sign_text}
use Rattle.mlir_lex.specs.Pieces.{Piece, pieces_text, goes_on, ends_before, ArePieces}
use Rattle.fhe_text.specs.Roles.{Spelled}
use Rattle.fhe_text.specs.Printing.{line_feed, comma}
use Rattle.fhe_text.proofs.PrintedTokens.{all_tokens, behind_comma, listed_tokens}

-- a piece of a text as a token
abbrev pub token_of : Piece → Spelled
token_of piece = (piece.kind, piece.text)

-- the text is made of these tokens, with blanks before them, and a line feed at its end
pub record IsMade (text : List ℕ) (tokens : List Spelled) : Type 0 where
  pub pieces : List Piece
  pub text_is : text ≡ pieces_text pieces line_feed
  pub tokens_are : tokens ≡ map token_of pieces
  pub are : ArePieces pieces line_feed

-- the end
pub made_end : IsMade line_feed []
made_end = record { pieces = []; text_is = refl; tokens_are = refl; are = refl }

-- one token more
pub made_token : {rest : List ℕ} {tokens : List Spelled} (blanks : List ℕ) (kind : TokenKind) (text : List ℕ) → list_all is_blank blanks ≡ true → spells kind text ≡ true → ends_before kind rest ≡ true → IsMade rest tokens → IsMade (blanks ++ (text ++ rest)) ((kind, text) ∷ tokens)
made_token {rest} {tokens} blanks kind text b s e m = record {
  pieces = record { blanks = blanks; kind = kind; text = text } ∷ m.pieces;
  text_is = ap (λ l. blanks ++ (text ++ l)) m.text_is;
  tokens_are = ap (λ l. (kind, text) ∷ l) m.tokens_are;
  are = (b, s, subst (λ l. ends_before kind l ≡ true) m.text_is e, m.are);
}

sign_ends : (rest : List ℕ) → ends_before Sign rest ≡ true
sign_ends [] = refl
sign_ends (b ∷ bs) = refl

text_ends : (rest : List ℕ) → ends_before Text rest ≡ true
text_ends [] = refl
text_ends (b ∷ bs) = refl

-- a sign, and a text in quotes, end by themselves
pub made_sign : {rest : List ℕ} {tokens : List Spelled} (blanks text : List ℕ) → list_all is_blank blanks ≡ true → is_sign_text text ≡ true → IsMade rest tokens → IsMade (blanks ++ (text ++ rest)) ((Sign, text) ∷ tokens)
made_sign {rest} blanks text b s m = made_token blanks Sign text b s (sign_ends rest) m

pub made_text : {rest : List ℕ} {tokens : List Spelled} (blanks text : List ℕ) → list_all is_blank blanks ≡ true → spells Text text ≡ true → IsMade rest tokens → IsMade (blanks ++ (text ++ rest)) ((Text, text) ∷ tokens)
made_text {rest} blanks text b s m = made_token blanks Text text b s (text_ends rest) m

-- the same text, grouped in another way
pub made_as : {text other : List ℕ} {tokens : List Spelled} → text ≡ other → IsMade other tokens → IsMade text tokens
made_as {text} {other} {tokens} e m = subst (λ l. IsMade l tokens) (sym e) m

-- ---- lists

-- one of a list, behind blanks and before what does not go on with a token of the kind
abbrev pub MakesEach : {X : Type 0} → (X → List ℕ) → (X → List Spelled → List Spelled) → (X → Type 0) → TokenKind → Type 0
MakesEach {X} spell write Holds kind =
    (blanks : List ℕ) → list_all is_blank blanks ≡ true → (x : X) → Holds x → (rest : List ℕ) (tokens : List Spelled)
    → ends_before kind rest ≡ true → IsMade rest tokens → IsMade (blanks ++ (spell x ++ rest)) (write x tokens)

-- a token of the kind ends before a comma, and so before more of a list
more_ends : {X : Type 0} (spell : X → List ℕ) (kind : TokenKind) (xs : List X) (rest : List ℕ) → goes_on kind 44 ≡ false → ends_before kind rest ≡ true → ends_before kind (flat_map (λ y. comma ++ spell y) xs ++ rest) ≡ true
more_ends spell kind [] rest g e = e
more_ends spell kind (x ∷ xs) rest g e = ap not g

more_made : {X : Type 0} (spell : X → List ℕ) (write : X → List Spelled → List Spelled) (Holds : X → Type 0) (kind : TokenKind) → MakesEach spell write Holds kind → goes_on kind 44 ≡ false → (place : ℕ) (xs : List X) → AllByRecursion Holds xs → (rest : List ℕ) (tokens : List Spelled) → ends_before kind rest ≡ true → IsMade rest tokens → IsMade (flat_map (λ y. comma ++ spell y) xs ++ rest) (all_tokens (behind_comma (λ p. write)) place xs tokens)
more_made spell write Holds kind each g place [] all rest tokens e m = m
more_made {X} spell write Holds kind each g place (x ∷ xs) all rest tokens e m =
    made_as (ap (λ l. codes ", " ++ l) (append_assoc (spell x) (flat_map (λ y. comma ++ spell y) xs) rest))
    (made_sign [] (codes ",") refl refl
    (each (codes " ") refl x all.0 (flat_map (λ y. comma ++ spell y) xs ++ rest) (all_tokens (behind_comma (λ p. write)) (place + 1) xs tokens)
    (more_ends spell kind xs rest g e) (more_made spell write Holds kind each g (place + 1) xs all.1 rest tokens e m)))

-- one or more, behind blanks
pub some_made : {X : Type 0} (spell : X → List ℕ) (write : X → List Spelled → List Spelled) (Holds : X → Type 0) (kind : TokenKind) → MakesEach spell write Holds kind → goes_on kind 44 ≡ false → (blanks : List ℕ) → list_all is_blank blanks ≡ true → (x : X) (xs : List X) → AllByRecursion Holds (x ∷ xs) → (rest : List ℕ) (tokens : List Spelled) → ends_before kind rest ≡ true → IsMade rest tokens → IsMade (blanks ++ (join_by spell comma (x ∷ xs) ++ rest)) (listed_tokens (λ p. write) 0 (x ∷ xs) tokens)
some_made spell write Holds kind each g blanks b x xs all rest tokens e m =
    made_as (ap (λ l. blanks ++ l) (append_assoc (spell x) (flat_map (λ y. comma ++ spell y) xs) rest))
    (each blanks b x all.0 (flat_map (λ y. comma ++ spell y) xs ++ rest) (all_tokens (behind_comma (λ p. write)) 1 xs tokens)
    (more_ends spell kind xs rest g e) (more_made spell write Holds kind each g 1 xs all.1 rest tokens e m))

-- none or more
pub list_made : {X : Type 0} (spell : X → List ℕ) (write : X → List Spelled → List Spelled) (Holds : X → Type 0) (kind : TokenKind) → MakesEach spell write Holds kind → goes_on kind 44 ≡ false → (xs : List X) → AllByRecursion Holds xs → (rest : List ℕ) (tokens : List Spelled) → ends_before kind rest ≡ true → IsMade rest tokens → IsMade (join_by spell comma xs ++ rest) (listed_tokens (λ p. write) 0 xs tokens)
list_made spell write Holds kind each g [] all rest tokens e m = m
list_made spell write Holds kind each g (x ∷ xs) all rest tokens e m = some_made spell write Holds kind each g [] refl x xs all rest tokens e m
