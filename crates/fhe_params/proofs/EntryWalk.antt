-- The walk over the entries of a list: what was read so far and what is still read make up the whole.
use Rattle.std.proofs.Common.{◌≡◌, ℕ, ◌+◌, ◌<◌, ◌≤◌, List, [], ◌∷◌, ◌++◌, length, map, get_or, drop, Ok, Err, refl, sym, ap, ◌∙◌, append_assoc, arith}
use Rattle.std.proofs.lemmas.List.{append-nil, drop_more, drop_all}
use Rattle.toml.specs.Data.{Data}
use Rattle.toml.specs.View.{view}
use Rattle.toml.specs.declared.value.Value.{Value}
use Rattle.refusals.specs.declared.refusal.Refusal.{Refusal}
use Rattle.refusals.specs.declared.refusal.Refusal.TheVariants.{Fault, Memory}
use Rattle.refusals.specs.Reading.{◌>>=◌, Refuses}
use Rattle.fhe_params.specs.declared.fault.TableFault.{TableFault}
use Rattle.fhe_params.specs.declared.fault.ListName.{ListName}
use Rattle.fhe_params.specs.declared.fields.Place.{Place}
use Rattle.fhe_params.specs.TableReading.{Read, place_of, entries_from}

-- the entries that were read, and those that are still read
abbrev pub after_front : {E : Type 0} → List E → Read (List E) → Read (List E)
after_front front (Ok entries) = Ok (front ++ entries)
after_front front (Err fault) = Err fault

front-none : {E : Type 0} (read : Read (List E)) → after_front [] read ≡ read
front-none (Ok entries) = refl
front-none (Err fault) = refl

front-more : {E : Type 0} (front : List E) (entry : E) (read : Read (List E))
    → after_front front (read >>= λ entries. Ok (entry ∷ entries)) ≡ after_front (front ++ entry ∷ []) read
front-more front entry (Ok entries) = ap (λ xs. Ok xs) (simp append_assoc)
front-more front entry (Err fault) = refl

module _ {E : Type 0} (read : Place → Data → Read E) (name : ListName) where
  -- what is still read of the values from a place on
  abbrev pub rest_from : ℕ → List Value → Read (List E)
  rest_from at values = entries_from read name at (map view (drop at values))

  pub begins : (values : List Value) → after_front [] (rest_from 0 values) ≡ entries_from read name 0 (map view values)
  begins values = front-none (entries_from read name 0 (map view values))

  pub goes_on : (front : List E) (at : ℕ) (values : List Value) (value : Value) (entry : E) (total : Read (List E)) → at < length values
      → value ≡ get_or values at value → read (place_of name at) (view value) ≡ Ok entry
      → after_front front (rest_from at values) ≡ total → after_front (front ++ entry ∷ []) (rest_from (at + 1) values) ≡ total
  unfolding entries_from
  goes_on front at values value entry total lt here is so_far =
      let rest : Read (List E) = rest_from (at + 1) values in
      let one : rest_from at values ≡ (rest >>= λ entries. Ok (entry ∷ entries)) = rw (drop_more values at value lt, ← here, is) refl in
      sym (front-more front entry rest) ∙ sym (ap (after_front front) one) ∙ so_far

  refused : (front : List E) (at : ℕ) (values : List Value) (value : Value) (fault : TableFault) (total : Read (List E)) → at < length values
      → value ≡ get_or values at value → read (place_of name at) (view value) ≡ Err fault
      → after_front front (rest_from at values) ≡ total → total ≡ Err fault
  unfolding entries_from
  refused front at values value fault total lt here is so_far =
      let one : rest_from at values ≡ Err fault = rw (drop_more values at value lt, ← here, is) refl in
      sym so_far ∙ ap (after_front front) one

  pub refuses : (front : List E) (at : ℕ) (values : List Value) (value : Value) (refusal : Refusal TableFault) (total : Read (List E)) → at < length values
      → value ≡ get_or values at value → Refuses refusal (read (place_of name at) (view value))
      → after_front front (rest_from at values) ≡ total → Refuses refusal total
  refuses front at values value (Fault fault) total lt here is so_far = refused front at values value fault total lt here is so_far
  refuses front at values value Memory total lt here is so_far = tt

  pub ends : (front : List E) (at : ℕ) (values : List Value) (total : Read (List E)) → length values ≤ at
      → after_front front (rest_from at values) ≡ total → total ≡ Ok front
  unfolding entries_from
  ends front at values total le so_far =
      let none : rest_from at values ≡ Ok [] = rw (drop_all at values le) refl in
      sym so_far ∙ ap (after_front front) none ∙ ap (λ xs. Ok xs) (append-nil front)
