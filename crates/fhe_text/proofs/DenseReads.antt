-- Constant tensors against the tokens in their roles.
use Rattle.std.proofs.Common.{◌≡◌, ℕ, Bool, true, false, ◌&&◌, List, [], ◌∷◌, ◌++◌, length, cond, map, refl, sym, ap, ◌∙◌, inl, inr, codes, ℤ, Option, Some, None, Ok, Err}
use Rattle.std.specs.Prelude.{is_some}
use Rattle.std.specs.List.{list_any}
use Rattle.std.proofs.lemmas.Bool.{cond_both}
use Rattle.std.proofs.lemmas.List.{map-append, length-map}
use Rattle.refusals.specs.Reading.{◌>>=◌}
use Rattle.mlir_lex.specs.declared.TokenKind.TheVariants.{Word, Int, Sign}
use Rattle.fhe_text.specs.declared.source.Statement.{Statement}
use Rattle.fhe_text.specs.declared.source.Statement.TheVariants as statements
use Rattle.fhe_text.specs.declared.source.Entries.{Entries}
use Rattle.fhe_text.specs.declared.source.Entries.TheVariants as entries
use Rattle.fhe_text.specs.declared.fault.TextKind.TheVariants as kinds
use Rattle.fhe_text.specs.Numbers.{number_of, signed_of, length_of, xtype_of, or_zero}
use Rattle.fhe_text.specs.Patterns.{Pattern, token, IsWhole, ◌▹◌}
use Rattle.fhe_text.specs.Roles.{Spelled, Role, word, sign, item, splat, dense_length, dense_cell}
use Rattle.fhe_text.specs.Grammar.{Production, listed, dense_entries, dense_constant}
use Rattle.fhe_text.specs.Conditions.{Part, meets, texts_in, is_statement, is_item, is_number, numbers_before, items_before, all_fit, is_length_of}
use Rattle.fhe_text.specs.Program.{is_splat, is_dense_length, is_dense_cell, entries_of, roles_in}
use Rattle.fhe_text.specs.Descent.{Read, wrong_at, kind_at, some_or, stands, length_at, xtype_at, number_at, next_number_at, numbers_at, list_at, entries_at, item_count, entry_numbers, dense_length_at, dense_cell_at, dense_type_at, dense_constant_at}
use Rattle.fhe_text.proofs.Going.{IsReadBy, IsSpelledBy, Steps, token_by, plain_token, formed_token, then_read, value_read, fit_read}
use Rattle.fhe_text.proofs.Choosing.{begins_one, second_read}
use Rattle.fhe_text.proofs.Adding.{Adds, adds_both, adds_more, adds_all, has_role, no_role, no_texts, one_text}
use Rattle.fhe_text.proofs.Segments.{Since, since_more, since_behind}
use Rattle.fhe_text.proofs.TypeReads.{sign_read}
use Rattle.fhe_text.proofs.ArgReads.{signed_is}
use Rattle.fhe_text.proofs.DictReads.{sign_apart}
use Rattle.fhe_text.proofs.Listing.{bound_read, listed_read}

-- ---- the INTs of the constant that is being written

-- what stands behind the last statement's name has these INTs of a list and these INTs in all
pub record Written (before : List Part) (items numbers : List (List ℕ)) : Type 0 where
  pub mid : List Part
  pub since : Since is_statement before mid
  pub adds_items : Adds (texts_in is_item) mid items
  pub adds_numbers : Adds (texts_in is_number) mid numbers

items_are : (before : List Part) (items numbers : List (List ℕ)) → Written before items numbers → items_before before ≡ length items
items_are before items numbers h = ap (λ own. length (texts_in is_item own)) (since_behind is_statement before h.mid h.since) ∙ ap (λ (l : List (List ℕ)). length l) (adds_all h.adds_items refl)

numbers_are : (before : List Part) (items numbers : List (List ℕ)) → Written before items numbers → numbers_before before ≡ map number_of numbers
numbers_are before items numbers h = ap (λ own. map number_of (texts_in is_number own)) (since_behind is_statement before h.mid h.since) ∙ ap (map number_of) (adds_all h.adds_numbers refl)

-- behind parts that add more
written_more : (before parts : List Part) (items numbers more others : List (List ℕ)) → Written before items numbers → list_any is_statement (roles_in parts) ≡ false → Adds (texts_in is_item) parts more → Adds (texts_in is_number) parts others → Written (before ++ parts) (items ++ more) (numbers ++ others)
written_more before parts items numbers more others h none one all = record {
  mid = h.mid ++ parts;
  since = since_more is_statement before h.mid parts h.since none;
  adds_items = adds_both h.adds_items one;
  adds_numbers = adds_both h.adds_numbers all;
}

-- and behind parts without any
written_on : (p : Pattern Role) (before parts : List Part) (items numbers : List (List ℕ)) → has_role is_statement p ≡ false → has_role is_item p ≡ false → has_role is_number p ≡ false → IsWhole p (roles_in parts) → Written before items numbers → Written (before ++ parts) items numbers
written_on p before parts items numbers s i n whole h = record {
  mid = h.mid ++ parts;
  since = since_more is_statement before h.mid parts h.since (no_role is_statement p (roles_in parts) s whole);
  adds_items = adds_more h.adds_items (no_texts p is_item parts i whole);
  adds_numbers = adds_more h.adds_numbers (no_texts p is_number parts n whole);
}

-- ---- the INTs of a list

pub record AreItems (found : List ℤ) (parts : List Part) : Type 0 where
  pub texts : List (List ℕ)
  pub numbers_are : map number_of texts ≡ found
  pub adds_items : Adds (texts_in is_item) parts texts
  pub adds_numbers : Adds (texts_in is_number) parts texts

no_items : AreItems [] []
no_items = record { texts = []; numbers_are = refl; adds_items = record { adds = λ rest. refl }; adds_numbers = record { adds = λ rest. refl } }

items_comma : (found : List ℤ) (parts comma : List Part) → AreItems found parts → IsWhole (token (sign (codes ","))) (roles_in comma) → AreItems found (parts ++ comma)
items_comma found parts comma h wc = record {
  texts = h.texts;
  numbers_are = h.numbers_are;
  adds_items = adds_more h.adds_items (no_texts (token (sign (codes ","))) is_item comma refl wc);
  adds_numbers = adds_more h.adds_numbers (no_texts (token (sign (codes ","))) is_number comma refl wc);
}

items_more : (found : List ℤ) (z : ℤ) (so_far parts : List Part) → AreItems found so_far → IsSpelledBy item (signed_of 64) z parts → AreItems (found ++ z ∷ []) (so_far ++ parts)
items_more found z so_far parts h a = record {
  texts = h.texts ++ a.found.1 ∷ [];
  numbers_are = map-append number_of h.texts (a.found.1 ∷ []) ∙ ap (λ l. l ++ number_of a.found.1 ∷ []) h.numbers_are ∙ ap (λ n. found ++ n ∷ []) (signed_is 64 a.found.1 z a.value_is);
  adds_items = adds_both h.adds_items (one_text is_item item a.found parts refl a.parts_are);
  adds_numbers = adds_both h.adds_numbers (one_text is_number item a.found parts refl a.parts_are);
}

item_read : (before : List Part) (tokens : List Spelled) → IsReadBy (token item) before tokens (IsSpelledBy item (signed_of 64)) (number_at tokens)
unfolding number_at
item_read before tokens = formed_token item before tokens (signed_of 64) (λ t. refl) (λ t. refl)

next_number_read : (before : List Part) (found : List ℤ) (so_far : List Part) (tokens : List Spelled) → AreItems found so_far → IsReadBy (token item) (before ++ so_far) tokens (λ next more. AreItems next (so_far ++ more)) (next_number_at found tokens)
unfolding next_number_at
next_number_read before found so_far tokens h =
    value_read (item_read (before ++ so_far) tokens) (λ x. (found ++ x.0 ∷ [], refl, λ parts whole a. items_more found x.0 so_far parts h a))

numbers_read : (before : List Part) (tokens : List Spelled) → IsReadBy (listed (token item)) before tokens AreItems (numbers_at tokens)
unfolding numbers_at
numbers_read before tokens = listed_read (token item) next_number_at before [] tokens AreItems (next_number_read before) items_comma no_items

-- the list, in brackets
abbrev pub list_pattern : Production
list_pattern = token (sign (codes "[")) ▹ listed (token item) ▹ token (sign (codes "]"))

list_read : (before : List Part) (tokens : List Spelled) → IsReadBy list_pattern before tokens AreItems (list_at tokens)
unfolding list_at
list_read before tokens =
    then_read (sign_read (codes "[") before tokens) (λ open_ a wa fa.
    then_read (numbers_read (before ++ a) open_.1) (λ found b wb fb.
    value_read (sign_read (codes "]") ((before ++ a) ++ b) found.1) (λ close. (
      found.0,
      refl,
      λ c wc fc. record {
        texts = fb.texts;
        numbers_are = fb.numbers_are;
        adds_items = adds_both (no_texts (token (sign (codes "["))) is_item a refl wa) (adds_more fb.adds_items (no_texts (token (sign (codes "]"))) is_item c refl wc));
        adds_numbers = adds_both (no_texts (token (sign (codes "["))) is_number a refl wa) (adds_more fb.adds_numbers (no_texts (token (sign (codes "]"))) is_number c refl wc));
      },
    ))))

-- ---- the entries

pub record IsEntries (found : Entries) (parts : List Part) : Type 0 where
  pub items : List (List ℕ)
  pub splats : List (List ℕ)
  pub numbers : List (List ℕ)
  pub found_is : entries_of splats items ≡ found
  pub count_is : item_count found ≡ length items
  pub numbers_are : map number_of numbers ≡ entry_numbers found
  pub adds_items : Adds (texts_in is_item) parts items
  pub adds_splats : Adds (texts_in is_splat) parts splats
  pub adds_numbers : Adds (texts_in is_number) parts numbers

from_list : (found : List ℤ) (parts : List Part) → IsWhole list_pattern (roles_in parts) → AreItems found parts → IsEntries (entries.List found) parts
from_list found parts whole h = record {
  items = h.texts;
  splats = [];
  numbers = h.texts;
  found_is = ap (λ l. entries.List l) h.numbers_are;
  count_is = ap (λ (l : List ℤ). length l) (sym h.numbers_are) ∙ length-map h.texts number_of;
  numbers_are = h.numbers_are;
  adds_items = h.adds_items;
  adds_splats = no_texts list_pattern is_splat parts refl whole;
  adds_numbers = h.adds_numbers;
}

from_splat : (z : ℤ) (parts : List Part) → IsWhole (token splat) (roles_in parts) → IsSpelledBy splat (signed_of 64) z parts → IsEntries (entries.Splat z) parts
from_splat z parts whole h = record {
  items = [];
  splats = h.found.1 ∷ [];
  numbers = h.found.1 ∷ [];
  found_is = ap (λ n. entries.Splat n) (signed_is 64 h.found.1 z h.value_is);
  count_is = refl;
  numbers_are = ap (λ n. n ∷ []) (signed_is 64 h.found.1 z h.value_is);
  adds_items = no_texts (token splat) is_item parts refl whole;
  adds_splats = one_text is_splat splat h.found parts refl h.parts_are;
  adds_numbers = one_text is_number splat h.found parts refl h.parts_are;
}

splat_read : (before : List Part) (tokens : List Spelled) → IsReadBy (token splat) before tokens (IsSpelledBy splat (signed_of 64)) (number_at tokens)
unfolding number_at
splat_read before tokens = formed_token splat before tokens (signed_of 64) (λ t. refl) (λ t. refl)

entries_read : (before : List Part) (tokens : List Spelled) → IsReadBy dense_entries before tokens IsEntries (entries_at tokens)
unfolding entries_at
entries_read before tokens =
    second_read (begins_one list_pattern (sign (codes "[")) (λ ts. stands Sign (codes "[") ts) refl refl (λ next rest. refl) tokens) refl refl
    (λ e. sign_apart (codes "[") (token splat) tokens refl e)
    (λ e. value_read (list_read before tokens) (λ x. (entries.List x.0, refl, λ parts whole h. from_list x.0 parts whole h)))
    (λ e. value_read (splat_read before tokens) (λ x. (entries.Splat x.0, refl, λ parts whole h. from_splat x.0 parts whole h)))

-- ---- the length and the xtype

-- a length, where so many INTs stand in a list
abbrev pub sized : ℕ → List Spelled → ℕ × List Spelled → Read ℕ
sized items tokens count = cond (is_length_of items count.0) (Ok count) (Err (wrong_at kinds.Shape tokens))

dense_length_read : (before : List Part) (tokens : List Spelled) (items : ℕ) → items_before before ≡ items → IsReadBy (token dense_length) before tokens (IsSpelledBy dense_length length_of) (dense_length_at items tokens)
unfolding dense_length_at length_at
dense_length_read before tokens items same =
    bound_read (kind_at Int tokens) (λ found. some_or (length_of found.0) found.1 (wrong_at kinds.Shape tokens)) (sized items tokens)
    (token_by dense_length before tokens (IsSpelledBy dense_length length_of) (λ found. some_or (length_of found.0) found.1 (wrong_at kinds.Shape tokens) >>= sized items tokens)
    (λ found rest. by_length found rest (length_of found.1) refl))
  where
    fits : (found : Spelled) (count : ℕ) (b : Bool) → length_of found.1 ≡ Some count → is_length_of items count ≡ b → meets before dense_length found.1 ≡ b
    fits found count b e f = ap (λ o. is_some o && is_length_of (items_before before) (or_zero o)) e ∙ ap (λ n. is_length_of n count) same ∙ f

    by_length : (found : Spelled) (rest : List Spelled) (o : Option ℕ) → length_of found.1 ≡ o → Steps dense_length before tokens (IsSpelledBy dense_length length_of) found rest (some_or o rest (wrong_at kinds.Shape tokens) >>= sized items tokens)
    by_length found rest None e = inr (refl, refl, ap (λ o. is_some o && is_length_of (items_before before) (or_zero o)) e)
    by_length found rest (Some count) e =
        cond_both (is_length_of items count) (Ok (count, rest)) (Err (wrong_at kinds.Shape tokens)) (λ r. Steps dense_length before tokens (IsSpelledBy dense_length length_of) found rest r)
        (λ f. (refl, refl, fits found count true e f, record { found = found; value_is = sym e; parts_are = refl }))
        (λ f. inr (refl, refl, fits found count false e f))

-- an xtype, which holds the numbers
abbrev pub celled : List ℤ → List Spelled → ℕ × List Spelled → Read ℕ
celled numbers tokens bits = cond (all_fit bits.0 numbers) (Ok bits) (Err (wrong_at kinds.Constant tokens))

dense_cell_read : (before : List Part) (tokens : List Spelled) (numbers : List ℤ) → numbers_before before ≡ numbers → IsReadBy (token dense_cell) before tokens (IsSpelledBy dense_cell xtype_of) (dense_cell_at numbers tokens)
unfolding dense_cell_at xtype_at
dense_cell_read before tokens numbers same =
    bound_read (kind_at Word tokens) (λ found. some_or (xtype_of found.0) found.1 (wrong_at kinds.Syntax tokens)) (celled numbers tokens)
    (token_by dense_cell before tokens (IsSpelledBy dense_cell xtype_of) (λ found. some_or (xtype_of found.0) found.1 (wrong_at kinds.Syntax tokens) >>= celled numbers tokens)
    (λ found rest. by_cell found rest (xtype_of found.1) refl))
  where
    fits : (found : Spelled) (bits : ℕ) (b : Bool) → xtype_of found.1 ≡ Some bits → all_fit bits numbers ≡ b → meets before dense_cell found.1 ≡ b
    fits found bits b e f = ap (λ o. all_fit (or_zero o) (numbers_before before)) e ∙ ap (λ l. all_fit bits l) same ∙ f

    by_cell : (found : Spelled) (rest : List Spelled) (o : Option ℕ) → xtype_of found.1 ≡ o → Steps dense_cell before tokens (IsSpelledBy dense_cell xtype_of) found rest (some_or o rest (wrong_at kinds.Syntax tokens) >>= celled numbers tokens)
    by_cell found rest None e = inl (refl, ap is_some e)
    by_cell found rest (Some bits) e =
        cond_both (all_fit bits numbers) (Ok (bits, rest)) (Err (wrong_at kinds.Constant tokens)) (λ r. Steps dense_cell before tokens (IsSpelledBy dense_cell xtype_of) found rest r)
        (λ f. (refl, ap is_some e, fits found bits true e f, record { found = found; value_is = sym e; parts_are = refl }))
        (λ f. inr (refl, ap is_some e, fits found bits false e f))

-- ---- the tensor

abbrev pub dense_type : Production
dense_type = token (word (codes "tensor")) ▹ token (sign (codes "<")) ▹ token dense_length ▹ token dense_cell ▹ token (sign (codes ">"))

-- the tensor of the entries
pub record IsTensor (found : Entries) (s : Statement) (parts : List Part) : Type 0 where
  pub length_text : List ℕ
  pub cell_text : List ℕ
  pub s_is : s ≡ statements.Dense found (or_zero (length_of length_text)) (or_zero (xtype_of cell_text))
  pub adds_length : Adds (texts_in is_dense_length) parts (length_text ∷ [])
  pub adds_cell : Adds (texts_in is_dense_cell) parts (cell_text ∷ [])

-- five parts, each one
five : (a b c d e : List Part) (p q r s t : Part) → a ≡ p ∷ [] → b ≡ q ∷ [] → c ≡ r ∷ [] → d ≡ s ∷ [] → e ≡ t ∷ [] → a ++ (b ++ (c ++ (d ++ e))) ≡ p ∷ q ∷ r ∷ s ∷ t ∷ []
five a b c d e p q r s t ha hb hc hd he = rw (ha, hb, hc, hd, he) refl

dense_type_read : (found : Entries) (before : List Part) (tokens : List Spelled) (items numbers : List (List ℕ)) → Written before items numbers → item_count found ≡ length items → map number_of numbers ≡ entry_numbers found → IsReadBy dense_type before tokens (IsTensor found) (dense_type_at found tokens)
unfolding dense_type_at
dense_type_read found before tokens items numbers written count same =
    then_read (plain_token (word (codes "tensor")) before tokens (λ t. refl)) (λ name a wa fa.
    then_read (sign_read (codes "<") (before ++ a) name.1) (λ open_ b wb fb.
    then_read (dense_length_read ((before ++ a) ++ b) open_.1 (item_count found) (items_are ((before ++ a) ++ b) items numbers (opened a wa b wb) ∙ sym count)) (λ long c wc fc.
    then_read (dense_cell_read (((before ++ a) ++ b) ++ c) long.1 (entry_numbers found) (numbers_are (((before ++ a) ++ b) ++ c) items numbers (measured a wa b wb c wc) ∙ same)) (λ cell d wd fd.
    value_read (sign_read (codes ">") ((((before ++ a) ++ b) ++ c) ++ d) cell.1) (λ close. (
      statements.Dense found long.0 cell.0,
      refl,
      λ e we fe.
          let all = five a b c d e _ _ _ _ _ fa.parts_are fb.parts_are fc.parts_are fd.parts_are fe.parts_are in
          record {
            length_text = fc.found.1;
            cell_text = fd.found.1;
            s_is = ap (λ o. statements.Dense found (or_zero o) cell.0) fc.value_is ∙ ap (λ o. statements.Dense found (or_zero (length_of fc.found.1)) (or_zero o)) fd.value_is;
            adds_length = record { adds = λ rest. ap (λ ps. texts_in is_dense_length (ps ++ rest)) all };
            adds_cell = record { adds = λ rest. ap (λ ps. texts_in is_dense_cell (ps ++ rest)) all };
          },
    ))))))
  where
    opened : (a : List Part) → IsWhole (token (word (codes "tensor"))) (roles_in a) → (b : List Part) → IsWhole (token (sign (codes "<"))) (roles_in b) → Written ((before ++ a) ++ b) items numbers
    opened a wa b wb = written_on (token (sign (codes "<"))) (before ++ a) b items numbers refl refl refl wb (written_on (token (word (codes "tensor"))) before a items numbers refl refl refl wa written)

    measured : (a : List Part) → IsWhole (token (word (codes "tensor"))) (roles_in a) → (b : List Part) → IsWhole (token (sign (codes "<"))) (roles_in b) → (c : List Part) → IsWhole (token dense_length) (roles_in c) → Written (((before ++ a) ++ b) ++ c) items numbers
    measured a wa b wb c wc = written_on (token dense_length) ((before ++ a) ++ b) c items numbers refl refl refl wc (opened a wa b wb)

-- ---- the constant

pub record IsDense (s : Statement) (parts : List Part) : Type 0 where
  pub items : List (List ℕ)
  pub splats : List (List ℕ)
  pub length_text : List ℕ
  pub cell_text : List ℕ
  pub s_is : s ≡ statements.Dense (entries_of splats items) (or_zero (length_of length_text)) (or_zero (xtype_of cell_text))
  pub adds_items : Adds (texts_in is_item) parts items
  pub adds_splats : Adds (texts_in is_splat) parts splats
  pub adds_length : Adds (texts_in is_dense_length) parts (length_text ∷ [])
  pub adds_cell : Adds (texts_in is_dense_cell) parts (cell_text ∷ [])

-- behind the name of a statement and parts without an INT
pub dense_read : (before : List Part) (tokens : List Spelled) → Written before [] [] → IsReadBy dense_constant before tokens IsDense (dense_constant_at tokens)
unfolding dense_constant_at
dense_read before tokens written =
    then_read (plain_token (word (codes "dense")) before tokens (λ t. refl)) (λ name a wa fa.
    then_read (sign_read (codes "<") (before ++ a) name.1) (λ open_ b wb fb.
    then_read (entries_read ((before ++ a) ++ b) open_.1) (λ found c wc fc.
    then_read (sign_read (codes ">") (((before ++ a) ++ b) ++ c) found.1) (λ close d wd fd.
    then_read (sign_read (codes ":") ((((before ++ a) ++ b) ++ c) ++ d) close.1) (λ colon e we fe.
    fit_tensor found.0 (((((before ++ a) ++ b) ++ c) ++ d) ++ e) colon.1 fc.items fc.numbers
    (written_on (token (sign (codes ":"))) ((((before ++ a) ++ b) ++ c) ++ d) e fc.items fc.numbers refl refl refl we
    (written_on (token (sign (codes ">"))) (((before ++ a) ++ b) ++ c) d fc.items fc.numbers refl refl refl wd
    (written_more ((before ++ a) ++ b) c [] [] fc.items fc.numbers
    (written_on (token (sign (codes "<"))) (before ++ a) b [] [] refl refl refl wb (written_on (token (word (codes "dense"))) before a [] [] refl refl refl wa written))
    (no_role is_statement dense_entries (roles_in c) refl wc) fc.adds_items fc.adds_numbers)))
    fc.count_is fc.numbers_are
    (λ s f wf ff. record {
      items = fc.items;
      splats = fc.splats;
      length_text = ff.length_text;
      cell_text = ff.cell_text;
      s_is = ff.s_is ∙ ap (λ n. statements.Dense n (or_zero (length_of ff.length_text)) (or_zero (xtype_of ff.cell_text))) (sym fc.found_is);
      adds_items = around is_item a b c d e f fc.items refl refl refl refl refl wa wb wd we wf fc.adds_items;
      adds_splats = around is_splat a b c d e f fc.splats refl refl refl refl refl wa wb wd we wf fc.adds_splats;
      adds_length = behind is_dense_length a b c d e f (ff.length_text ∷ []) refl refl refl refl refl wa wb wc wd we ff.adds_length;
      adds_cell = behind is_dense_cell a b c d e f (ff.cell_text ∷ []) refl refl refl refl refl wa wb wc wd we ff.adds_cell;
    }))))))
  where
    fit_tensor : {Fit : Statement → List Part → Type 0} (found : Entries) (before : List Part) (tokens : List Spelled) (items numbers : List (List ℕ)) → Written before items numbers → item_count found ≡ length items → map number_of numbers ≡ entry_numbers found
        → ((s : Statement) (parts : List Part) → IsWhole dense_type (roles_in parts) → IsTensor found s parts → Fit s parts) → IsReadBy dense_type before tokens Fit (dense_type_at found tokens)
    fit_tensor found before tokens items numbers h count same fit = fit_read (dense_type_read found before tokens items numbers h count same) fit

    -- the entries alone add
    around : (test : Role → Bool) (a b c d e f : List Part) (xs : List (List ℕ)) → has_role test (token (word (codes "dense"))) ≡ false → has_role test (token (sign (codes "<"))) ≡ false → has_role test (token (sign (codes ">"))) ≡ false → has_role test (token (sign (codes ":"))) ≡ false → has_role test dense_type ≡ false
        → IsWhole (token (word (codes "dense"))) (roles_in a) → IsWhole (token (sign (codes "<"))) (roles_in b) → IsWhole (token (sign (codes ">"))) (roles_in d) → IsWhole (token (sign (codes ":"))) (roles_in e) → IsWhole dense_type (roles_in f)
        → Adds (texts_in test) c xs → Adds (texts_in test) (a ++ (b ++ (c ++ (d ++ (e ++ f))))) xs
    around test a b c d e f xs ha hb hd he hf wa wb wd we wf own =
        adds_both (no_texts (token (word (codes "dense"))) test a ha wa) (adds_both (no_texts (token (sign (codes "<"))) test b hb wb)
        (adds_more own (adds_both (no_texts (token (sign (codes ">"))) test d hd wd) (adds_both (no_texts (token (sign (codes ":"))) test e he we) (no_texts dense_type test f hf wf)))))

    -- the type alone adds
    behind : (test : Role → Bool) (a b c d e f : List Part) (xs : List (List ℕ)) → has_role test (token (word (codes "dense"))) ≡ false → has_role test (token (sign (codes "<"))) ≡ false → has_role test dense_entries ≡ false → has_role test (token (sign (codes ">"))) ≡ false → has_role test (token (sign (codes ":"))) ≡ false
        → IsWhole (token (word (codes "dense"))) (roles_in a) → IsWhole (token (sign (codes "<"))) (roles_in b) → IsWhole dense_entries (roles_in c) → IsWhole (token (sign (codes ">"))) (roles_in d) → IsWhole (token (sign (codes ":"))) (roles_in e)
        → Adds (texts_in test) f xs → Adds (texts_in test) (a ++ (b ++ (c ++ (d ++ (e ++ f))))) xs
    behind test a b c d e f xs ha hb hc hd he wa wb wc wd we own =
        adds_both (no_texts (token (word (codes "dense"))) test a ha wa) (adds_both (no_texts (token (sign (codes "<"))) test b hb wb) (adds_both (no_texts dense_entries test c hc wc)
        (adds_both (no_texts (token (sign (codes ">"))) test d hd wd) (adds_both (no_texts (token (sign (codes ":"))) test e he we) own))))
