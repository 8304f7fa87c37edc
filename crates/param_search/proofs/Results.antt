-- What a choice that was tried adds to what was found.
use Rattle.std.proofs.Common.{◌≡◌, true, false, List, [], ◌∷◌, Option, refl}
use Rattle.std.specs.Prelude.{Some, None, filter_map}
use Rattle.std.specs.Option.{option_map}
use Rattle.fhe_params.specs.declared.table.Table.{Table}
use Rattle.fhe_params.specs.declared.table.Choice.{Choice}
use Rattle.tfhe_level.specs.declared.shape.Shape.{Shape}
use Rattle.noise_model.specs.declared.constraints.Broken.{Broken}
use Rattle.param_search.specs.declared.choices.Priced.{Priced}
use Rattle.param_search.specs.declared.least.Refused.{Refused}
use Rattle.param_search.specs.declared.least.Found.{Found}
use Rattle.param_search.specs.Search.{broken_by, is_feasible, refused, refusal_of}

abbrev pub found : List Refused → Option Choice → Found
found refused chosen = record { refused = refused; chosen = chosen }

pub found_made : {r s : List Refused} {c d : Option Choice} → r ≡ s → c ≡ d → found r c ≡ found s d
found_made first second = rw (first, second) refl

-- the choice that was found
abbrev pub chosen_of : Option Priced → Option Choice
chosen_of found = option_map (λ choice. choice.choice) found

pub is_refused : (table : Table) (shape : Shape) (x : Priced) (broken : Broken) → broken_by table shape x ≡ Some broken → is_feasible table shape x ≡ false
is_refused table shape x broken is = rw is refl

pub is_taken : (table : Table) (shape : Shape) (x : Priced) → broken_by table shape x ≡ None → is_feasible table shape x ≡ true
is_taken table shape x is = rw is refl

pub one_refused : (table : Table) (shape : Shape) (x : Priced) (broken : Broken) → broken_by table shape x ≡ Some broken → filter_map (refusal_of table shape) (x ∷ []) ≡ refused x broken ∷ []
one_refused table shape x broken is = rw is refl
