-- Productions without recursion, as patterns over roles: what a token is at its place.
use Rattle.std.specs.Prelude.{◌≡◌, List, [], ◌∷◌, ◌++◌, ◌⊎◌}
use Rattle.std.specs.List.{AllByRecursion}

-- nothing, a token in a role, both of two in order, either of two, or any number of one
pub data Pattern (Role : Type 0) : Type 0 where
  nothing : Pattern Role
  token : Role → Pattern Role
  both : Pattern Role → Pattern Role → Pattern Role
  either : Pattern Role → Pattern Role → Pattern Role
  many : Pattern Role → Pattern Role

-- one behind the other
abbrev pub joined : {X : Type 0} → List (List X) → List X
joined [] = []
joined (piece ∷ pieces) = piece ++ joined pieces

-- the tokens in these roles are whole
abbrev pub IsWhole : {Role : Type 0} → Pattern Role → List Role → Type 0
IsWhole nothing roles = roles ≡ []
IsWhole (token role) roles = roles ≡ role ∷ []
IsWhole {Role} (both first last) roles = (left right : List Role) × (roles ≡ left ++ right) × IsWhole first left × IsWhole last right
IsWhole (either one other) roles = IsWhole one roles ⊎ IsWhole other roles
IsWhole {Role} (many item) roles = (items : List (List Role)) × (roles ≡ joined items) × AllByRecursion (λ i. IsWhole item i) items

-- the tokens in these roles are cut: first parts are whole, the next is cut or missing, and nothing stands behind
abbrev pub IsCut : {Role : Type 0} → Pattern Role → List Role → Type 0
IsCut nothing roles = roles ≡ []
IsCut (token role) roles = (roles ≡ []) ⊎ (roles ≡ role ∷ [])
IsCut {Role} (both first last) roles = IsCut first roles ⊎ ((left right : List Role) × (roles ≡ left ++ right) × IsWhole first left × IsCut last right)
IsCut (either one other) roles = IsCut one roles ⊎ IsCut other roles
IsCut {Role} (many item) roles = (items : List (List Role)) × (last : List Role) × (roles ≡ joined items ++ last) × AllByRecursion (λ i. IsWhole item i) items × IsCut item last

infixr 6 ◌▹◌
-- both, in order
abbrev pub ◌▹◌ : {Role : Type 0} → Pattern Role → Pattern Role → Pattern Role
first ▹ last = both first last

-- that, or nothing
abbrev pub optional : {Role : Type 0} → Pattern Role → Pattern Role
optional pattern = either nothing pattern
