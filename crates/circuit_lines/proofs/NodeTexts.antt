-- The lines of nodes and outs: what is read is spelled so, and what is spelled is read again.
use Rattle.std.proofs.Common.{◌≡◌, ◌≢◌, ℕ, zero, suc, ◌+◌, ◌<◌, ◌≤◌, ℤ, Bool, true, false, cond, ltb, eqb, List, [], ◌∷◌, ◌++◌, length, drop, All, Ok, Err, sym, ap, refl, ◌∙◌, subst, append_assoc, length-append, arith}
use Rattle.std.specs.Prelude.{codes, slice_index}
use Rattle.std.specs.Char.{is_ascii_digit}
use Rattle.std.specs.Fmt.{signed_decimal}
use Rattle.std.specs.List.{flat_map, AllByRecursion}
use Rattle.std.proofs.lemmas.Bool.{ltb-true, lt-ltb, eqb-true}
use Rattle.std.proofs.lemmas.List.{append-nil, nil_from_length}
use Rattle.std.proofs.lemmas.List.Elements.{All-from_recursion, recursion_from_All}
use Rattle.refusals.specs.Reading.{◌>>=◌, unless}
use Rattle.refusals.specs.Steps.{value_of_step, test_held}
use Rattle.circuit_lines.specs.declared.line.Line.{Line}
use Rattle.circuit_lines.specs.declared.line.Line.TheVariants.{Input, Lin, Switch, Boot, Out}
use Rattle.circuit_lines.specs.Numbers.{Read, IsShort, misspelled, begins, literal_at, number_at, field_at}
use Rattle.circuit_lines.specs.Lines.{line_feed, field, last_field, term_text, entry_text, line_text, IsShortTerm, IsNodeLine, IsOutLine}
use Rattle.circuit_lines.specs.Many.{many}
use Rattle.circuit_lines.specs.Reading.{last_field_at, term_at, terms_at, entries_at, input_at, lin_at, switch_at, boot_at, form_at, node_line_at, out_line_at}
use Rattle.circuit_lines.proofs.NumberTexts.{at_given, words_begin, words_taken, words_again, number_taken, number_again, field_taken, field_again}
use Rattle.circuit_lines.proofs.HeadTexts.{last_field_taken, last_field_again, join_two, join_three, regroup_two, regroup_three}
use Rattle.circuit_lines.proofs.ManyTexts.{TakesItem, many_taken, ReadsItem, many_again, fewer_items}

-- no digit may follow
abbrev pub MayFollow : List ℕ → Type 0
MayFollow rest = is_ascii_digit (slice_index rest 0) ≡ false

-- ---- terms

term_takes : (line : ℕ) → TakesItem (λ _. term_at line) term_text IsShortTerm
unfolding term_at
term_takes line at bytes x e =
    let weight = value_of_step (field_at line (codes " ") bytes) (λ weight. field_at line (codes " %") weight.1 >>= λ operand. Ok ((operand.0, weight.0), operand.1)) x e in
    let operand = value_of_step (field_at line (codes " %") weight.0.1) (λ operand. Ok ((operand.0, weight.0.0), operand.1)) x weight.2 in
    let t1 = field_taken line (codes " ") bytes weight.0 weight.1 in
    let t2 = field_taken line (codes " %") weight.0.1 operand.0 operand.1 in
    let made : (ℤ × ℤ) × List ℕ = ((operand.0.0, weight.0.0), operand.0.1) in
    let whole : bytes ≡ term_text made.0 ++ made.1 = join_two bytes (field (codes " ") weight.0.0) (field (codes " %") operand.0.0) weight.0.1 operand.0.1 t1.parts t2.parts in
    at_given (λ y. (bytes ≡ term_text y.0 ++ y.1) × IsShortTerm y.0) made x operand.2 (whole, (t2.short, t1.short))

term_again : (line at : ℕ) (t : ℤ × ℤ) (rest : List ℕ) → IsShortTerm t → MayFollow rest → term_at line (term_text t ++ rest) ≡ Ok (t, rest)
unfolding term_at
term_again line at t rest is may =
    ap (term_at line) (regroup_two (field (codes " ") t.1) (field (codes " %") t.0) rest)
    ∙ rw (field_again line (codes " ") t.1 (field (codes " %") t.0 ++ rest) is.1 refl, field_again line (codes " %") t.0 rest is.0 may) refl

term_reads : (line : ℕ) → ReadsItem (λ _. term_at line) term_text IsShortTerm MayFollow
term_reads line = record { again = term_again line; follows = λ t rest is. refl; long = λ t is. omega arith }

term_stops : (line : ℕ) (rest : List ℕ) (at : ℕ) → term_at line (line_feed ++ rest) ≡ Err (misspelled line)
unfolding term_at field_at literal_at
term_stops line rest at = refl

pub terms_taken : (line : ℕ) (bytes : List ℕ) (x : List (ℤ × ℤ) × List ℕ) → terms_at line bytes ≡ Ok x → (bytes ≡ flat_map term_text x.0 ++ x.1) × All IsShortTerm x.0
unfolding terms_at
terms_taken line bytes x e =
    let read = many (λ _. term_at line) (length bytes) 0 bytes in
    let t = many_taken (λ _. term_at line) term_text IsShortTerm (term_takes line) (length bytes) 0 bytes in
    at_given (λ y. (bytes ≡ flat_map term_text y.0 ++ y.1) × All IsShortTerm y.0) read x e (t.parts, All-from_recursion IsShortTerm read.0 t.rules)

pub terms_again : (line : ℕ) (ts : List (ℤ × ℤ)) (rest : List ℕ) → All IsShortTerm ts → terms_at line (flat_map term_text ts ++ (line_feed ++ rest)) ≡ Ok (ts, line_feed ++ rest)
unfolding terms_at
terms_again line ts rest all =
    let each : AllByRecursion IsShortTerm ts = recursion_from_All IsShortTerm ts all in
    let reads = term_reads line in
    ap (λ read. Ok read) (many_again (λ _. term_at line) term_text IsShortTerm MayFollow reads (line_feed ++ rest) refl (λ _. misspelled line) (term_stops line rest) (length (flat_map term_text ts ++ (line_feed ++ rest))) 0 ts (fewer_items term_text IsShortTerm reads.long ts (line_feed ++ rest) each) each)

-- ---- entries

entry_takes : (line : ℕ) → TakesItem (λ _. field_at line (codes " ")) entry_text IsShort
entry_takes line at bytes x e = let t = field_taken line (codes " ") bytes x e in (t.parts, t.short)

entry_again : (line at : ℕ) (z : ℤ) (rest : List ℕ) → IsShort z → MayFollow rest → field_at line (codes " ") (entry_text z ++ rest) ≡ Ok (z, rest)
entry_again line at z rest is may = field_again line (codes " ") z rest is may

entry_reads : (line : ℕ) → ReadsItem (λ _. field_at line (codes " ")) entry_text IsShort MayFollow
entry_reads line = record { again = entry_again line; follows = λ z rest is. refl; long = λ z is. omega arith }

entry_stops : (line : ℕ) (rest : List ℕ) (at : ℕ) → field_at line (codes " ") (line_feed ++ rest) ≡ Err (misspelled line)
unfolding field_at literal_at
entry_stops line rest at = refl

pub entries_taken : (line : ℕ) (bytes : List ℕ) (x : List ℤ × List ℕ) → entries_at line bytes ≡ Ok x → (bytes ≡ flat_map entry_text x.0 ++ x.1) × All IsShort x.0
unfolding entries_at
entries_taken line bytes x e =
    let read = many (λ _. field_at line (codes " ")) (length bytes) 0 bytes in
    let t = many_taken (λ _. field_at line (codes " ")) entry_text IsShort (entry_takes line) (length bytes) 0 bytes in
    at_given (λ y. (bytes ≡ flat_map entry_text y.0 ++ y.1) × All IsShort y.0) read x e (t.parts, All-from_recursion IsShort read.0 t.rules)

pub entries_again : (line : ℕ) (es : List ℤ) (rest : List ℕ) → All IsShort es → entries_at line (flat_map entry_text es ++ (line_feed ++ rest)) ≡ Ok (es, line_feed ++ rest)
unfolding entries_at
entries_again line es rest all =
    let each : AllByRecursion IsShort es = recursion_from_All IsShort es all in
    let reads = entry_reads line in
    ap (λ read. Ok read) (many_again (λ _. field_at line (codes " ")) entry_text IsShort MayFollow reads (line_feed ++ rest) refl (λ _. misspelled line) (entry_stops line rest) (length (flat_map entry_text es ++ (line_feed ++ rest))) 0 es (fewer_items entry_text IsShort reads.long es (line_feed ++ rest) each) each)

-- ---- what stands behind the word of a form

-- a line of a node without its number and its word
abbrev pub behind_word : Line → List ℕ
behind_word (Input number lo hi) = signed_decimal lo ++ last_field (codes " ") hi
behind_word (Lin number constant terms) = signed_decimal constant ++ (flat_map term_text terms ++ line_feed)
behind_word (Switch number source) = signed_decimal source ++ line_feed
behind_word (Boot number source entries) = signed_decimal source ++ (flat_map entry_text entries ++ line_feed)
behind_word (Out source lo hi) = []

-- its word, and what stands between it and the first number
abbrev pub word_of_form : Line → List ℕ
word_of_form (Input number lo hi) = codes "input "
word_of_form (Lin number constant terms) = codes "lin "
word_of_form (Switch number source) = codes "switch %"
word_of_form (Boot number source entries) = codes "boot %"
word_of_form (Out source lo hi) = []

-- its number
abbrev pub number_of : Line → ℤ
number_of (Input number lo hi) = number
number_of (Lin number constant terms) = number
number_of (Switch number source) = number
number_of (Boot number source entries) = number
number_of (Out source lo hi) = source

-- what a reader of a form takes, behind the number
pub record IsForm (number : ℤ) (spelled bytes : List ℕ) (x : Line × List ℕ) : Type 0 where
  pub parts : bytes ≡ spelled ++ x.1
  pub rule : IsShort number → IsNodeLine x.0
  pub number_kept : number_of x.0 ≡ number

input_taken : (line : ℕ) (number : ℤ) (bytes : List ℕ) (x : Line × List ℕ) → input_at line number bytes ≡ Ok x → IsForm number (behind_word x.0) bytes x × (word_of_form x.0 ≡ codes "input ")
unfolding input_at
input_taken line number bytes x e =
    let lo = value_of_step (number_at line bytes) (λ lo. last_field_at line (codes " ") lo.1 >>= λ hi. Ok (Input number lo.0 hi.0, hi.1)) x e in
    let hi = value_of_step (last_field_at line (codes " ") lo.0.1) (λ hi. Ok (Input number lo.0.0 hi.0, hi.1)) x lo.2 in
    let t1 = number_taken line bytes lo.0 lo.1 in
    let t2 = last_field_taken line (codes " ") lo.0.1 hi.0 hi.1 in
    let whole = join_two bytes (signed_decimal lo.0.0) (last_field (codes " ") hi.0.0) lo.0.1 hi.0.1 t1.parts t2.parts in
    at_given (λ y. IsForm number (behind_word y.0) bytes y × (word_of_form y.0 ≡ codes "input ")) (Input number lo.0.0 hi.0.0, hi.0.1) x hi.2 (record { parts = whole; rule = λ short. (short, t1.short, t2.short); number_kept = refl }, refl)

lin_taken : (line : ℕ) (number : ℤ) (bytes : List ℕ) (x : Line × List ℕ) → lin_at line number bytes ≡ Ok x → IsForm number (behind_word x.0) bytes x × (word_of_form x.0 ≡ codes "lin ")
unfolding lin_at
lin_taken line number bytes x e =
    let constant = value_of_step (number_at line bytes) (λ constant. terms_at line constant.1 >>= λ terms. literal_at line line_feed terms.1 >>= λ rest. Ok (Lin number constant.0 terms.0, rest)) x e in
    let terms = value_of_step (terms_at line constant.0.1) (λ terms. literal_at line line_feed terms.1 >>= λ rest. Ok (Lin number constant.0.0 terms.0, rest)) x constant.2 in
    let rest = value_of_step (literal_at line line_feed terms.0.1) (λ rest. Ok (Lin number constant.0.0 terms.0.0, rest)) x terms.2 in
    let t1 = number_taken line bytes constant.0 constant.1 in
    let t2 = terms_taken line constant.0.1 terms.0 terms.1 in
    let whole = join_three bytes (signed_decimal constant.0.0) (flat_map term_text terms.0.0) line_feed constant.0.1 terms.0.1 rest.0 t1.parts t2.0 (words_taken line line_feed terms.0.1 rest.0 rest.1) in
    at_given (λ y. IsForm number (behind_word y.0) bytes y × (word_of_form y.0 ≡ codes "lin ")) (Lin number constant.0.0 terms.0.0, rest.0) x rest.2 (record { parts = whole; rule = λ short. (short, t1.short, t2.1); number_kept = refl }, refl)

switch_taken : (line : ℕ) (number : ℤ) (bytes : List ℕ) (x : Line × List ℕ) → switch_at line number bytes ≡ Ok x → IsForm number (behind_word x.0) bytes x × (word_of_form x.0 ≡ codes "switch %")
unfolding switch_at
switch_taken line number bytes x e =
    let source = value_of_step (number_at line bytes) (λ source. literal_at line line_feed source.1 >>= λ rest. Ok (Switch number source.0, rest)) x e in
    let rest = value_of_step (literal_at line line_feed source.0.1) (λ rest. Ok (Switch number source.0.0, rest)) x source.2 in
    let t1 = number_taken line bytes source.0 source.1 in
    let whole = join_two bytes (signed_decimal source.0.0) line_feed source.0.1 rest.0 t1.parts (words_taken line line_feed source.0.1 rest.0 rest.1) in
    at_given (λ y. IsForm number (behind_word y.0) bytes y × (word_of_form y.0 ≡ codes "switch %")) (Switch number source.0.0, rest.0) x rest.2 (record { parts = whole; rule = λ short. (short, t1.short); number_kept = refl }, refl)

some_entries : (es : List ℤ) → 0 < length es → es ≢ []
some_entries [] some = absurd (omega (arith, some))
some_entries (e ∷ es) some = λ none. absurd cc

boot_taken : (line : ℕ) (number : ℤ) (bytes : List ℕ) (x : Line × List ℕ) → boot_at line number bytes ≡ Ok x → IsForm number (behind_word x.0) bytes x × (word_of_form x.0 ≡ codes "boot %")
unfolding boot_at
boot_taken line number bytes x e =
    let source = value_of_step (number_at line bytes) (λ source. entries_at line source.1 >>= λ entries. unless (ltb 0 (length entries.0)) (misspelled line) >>= λ some. literal_at line line_feed entries.1 >>= λ rest. Ok (Boot number source.0 entries.0, rest)) x e in
    let entries = value_of_step (entries_at line source.0.1) (λ entries. unless (ltb 0 (length entries.0)) (misspelled line) >>= λ some. literal_at line line_feed entries.1 >>= λ rest. Ok (Boot number source.0.0 entries.0, rest)) x source.2 in
    let some = test_held (ltb 0 (length entries.0.0)) (misspelled line) (λ some. literal_at line line_feed entries.0.1 >>= λ rest. Ok (Boot number source.0.0 entries.0.0, rest)) x entries.2 in
    let rest = value_of_step (literal_at line line_feed entries.0.1) (λ rest. Ok (Boot number source.0.0 entries.0.0, rest)) x some.1 in
    let t1 = number_taken line bytes source.0 source.1 in
    let t2 = entries_taken line source.0.1 entries.0 entries.1 in
    let nonempty = some_entries entries.0.0 (ltb-true 0 (length entries.0.0) some.0) in
    let whole = join_three bytes (signed_decimal source.0.0) (flat_map entry_text entries.0.0) line_feed source.0.1 entries.0.1 rest.0 t1.parts t2.0 (words_taken line line_feed entries.0.1 rest.0 rest.1) in
    at_given (λ y. IsForm number (behind_word y.0) bytes y × (word_of_form y.0 ≡ codes "boot %")) (Boot number source.0.0 entries.0.0, rest.0) x rest.2 (record { parts = whole; rule = λ short. (short, t1.short, nonempty, t2.1); number_kept = refl }, refl)

-- ---- a form with its word

with_word : (number : ℤ) (word bytes : List ℕ) (x : Line × List ℕ) → begins word bytes ≡ true → IsForm number (behind_word x.0) (drop (length word) bytes) x → word_of_form x.0 ≡ word → IsForm number (word_of_form x.0 ++ behind_word x.0) bytes x
with_word number word bytes x test form is_word =
    record {
      parts = words_begin word bytes test ∙ join_two (word ++ drop (length word) bytes) word (behind_word x.0) (drop (length word) bytes) x.1 refl form.parts ∙ ap (λ w. (w ++ behind_word x.0) ++ x.1) (sym is_word);
      rule = form.rule;
      number_kept = form.number_kept;
    }

form_step : (number : ℤ) (word bytes : List ℕ) (test : Bool) (a b : Read (Line × List ℕ)) (x : Line × List ℕ) → test ≡ begins word bytes
    → (a ≡ Ok x → IsForm number (behind_word x.0) (drop (length word) bytes) x × (word_of_form x.0 ≡ word))
    → (b ≡ Ok x → IsForm number (word_of_form x.0 ++ behind_word x.0) bytes x)
    → cond test a b ≡ Ok x → IsForm number (word_of_form x.0 ++ behind_word x.0) bytes x
form_step number word bytes true a b x is this others e = let t = this e in with_word number word bytes x (sym is) t.0 t.1
form_step number word bytes false a b x is this others e = others e

no_form : (line : ℕ) (number : ℤ) (bytes : List ℕ) (x : Line × List ℕ) → Err (misspelled line) ≡ Ok x → IsForm number (word_of_form x.0 ++ behind_word x.0) bytes x
no_form line number bytes x e = absurd cc

pub form_taken : (line : ℕ) (number : ℤ) (bytes : List ℕ) (x : Line × List ℕ) → form_at line number bytes ≡ Ok x → IsForm number (word_of_form x.0 ++ behind_word x.0) bytes x
unfolding form_at
form_taken line number bytes x e =
    form_step number (codes "input ") bytes (begins (codes "input ") bytes) _ _ x refl (input_taken line number (drop 6 bytes) x) (λ e1.
    form_step number (codes "lin ") bytes (begins (codes "lin ") bytes) _ _ x refl (lin_taken line number (drop 4 bytes) x) (λ e2.
    form_step number (codes "switch %") bytes (begins (codes "switch %") bytes) _ _ x refl (switch_taken line number (drop 8 bytes) x) (λ e3.
    form_step number (codes "boot %") bytes (begins (codes "boot %") bytes) _ _ x refl (boot_taken line number (drop 6 bytes) x) (no_form line number bytes x) e3) e2) e1) e

-- the line by its number, its word and the rest
line_parts : (x : Line) → IsNodeLine x → field (codes "%") (number_of x) ++ (codes " = " ++ (word_of_form x ++ behind_word x)) ≡ line_text x
line_parts (Input number lo hi) is = refl
line_parts (Lin number constant terms) is = refl
line_parts (Switch number source) is = refl
line_parts (Boot number source entries) is = refl
line_parts (Out source lo hi) is = absurd is

pub node_takes : TakesItem node_line_at line_text IsNodeLine
unfolding node_line_at
node_takes line bytes x e =
    let number = value_of_step (field_at line (codes "%") bytes) (λ number. literal_at line (codes " = ") number.1 >>= λ rest. form_at line number.0 rest) x e in
    let rest = value_of_step (literal_at line (codes " = ") number.0.1) (λ rest. form_at line number.0.0 rest) x number.2 in
    let t1 = field_taken line (codes "%") bytes number.0 number.1 in
    let t2 = words_taken line (codes " = ") number.0.1 rest.0 rest.1 in
    let form = form_taken line number.0.0 rest.0 x rest.2 in
    let rule = form.rule t1.short in
    let whole : bytes ≡ (field (codes "%") number.0.0 ++ (codes " = " ++ (word_of_form x.0 ++ behind_word x.0))) ++ x.1 = join_three bytes (field (codes "%") number.0.0) (codes " = ") (word_of_form x.0 ++ behind_word x.0) number.0.1 rest.0 x.1 t1.parts t2 form.parts in
    (whole ∙ ap (λ n. (field (codes "%") n ++ (codes " = " ++ (word_of_form x.0 ++ behind_word x.0))) ++ x.1) (sym form.number_kept) ∙ ap (λ w. w ++ x.1) (line_parts x.0 rule), rule)

-- ---- what is spelled

regroup_line : (n a w b rest : List ℕ) → (n ++ (a ++ (w ++ b))) ++ rest ≡ n ++ (a ++ (w ++ (b ++ rest)))
regroup_line n a w b rest = simp append_assoc

terms_follow : (ts : List (ℤ × ℤ)) (rest : List ℕ) → MayFollow (flat_map term_text ts ++ (line_feed ++ rest))
terms_follow [] rest = refl
terms_follow (t ∷ ts) rest = refl

entries_follow : (es : List ℤ) (rest : List ℕ) → MayFollow (flat_map entry_text es ++ (line_feed ++ rest))
entries_follow [] rest = refl
entries_follow (e ∷ es) rest = refl

entries_some : (es : List ℤ) → es ≢ [] → 0 < length es
entries_some [] some = absurd (some refl)
entries_some (e ∷ es) some = omega arith

forms_again : (line : ℕ) (x : Line) (rest : List ℕ) → IsNodeLine x → form_at line (number_of x) (word_of_form x ++ (behind_word x ++ rest)) ≡ Ok (x, rest)
unfolding form_at input_at lin_at switch_at boot_at
forms_again line (Input number lo hi) rest is =
    ap (λ r. input_at line number r) (regroup_two (signed_decimal lo) (last_field (codes " ") hi) rest)
    ∙ rw (number_again line lo (last_field (codes " ") hi ++ rest) is.1 refl, last_field_again line (codes " ") hi rest is.2) refl
forms_again line (Lin number constant terms) rest is =
    ap (λ r. lin_at line number r) (regroup_three (signed_decimal constant) (flat_map term_text terms) line_feed rest)
    ∙ rw (number_again line constant (flat_map term_text terms ++ (line_feed ++ rest)) is.1 (terms_follow terms rest), terms_again line terms rest is.2, words_again line line_feed rest) refl
forms_again line (Switch number source) rest is =
    ap (λ r. switch_at line number r) (regroup_two (signed_decimal source) line_feed rest)
    ∙ rw (number_again line source (line_feed ++ rest) is.1 refl, words_again line line_feed rest) refl
forms_again line (Boot number source entries) rest is =
    ap (λ r. boot_at line number r) (regroup_three (signed_decimal source) (flat_map entry_text entries) line_feed rest)
    ∙ rw (number_again line source (flat_map entry_text entries ++ (line_feed ++ rest)) is.1 (entries_follow entries rest), entries_again line entries rest is.3, lt-ltb 0 (length entries) (entries_some entries is.2), words_again line line_feed rest) refl
forms_again line (Out source lo hi) rest is = absurd is

short_number : (x : Line) → IsNodeLine x → IsShort (number_of x)
short_number (Input number lo hi) is = is.0
short_number (Lin number constant terms) is = is.0
short_number (Switch number source) is = is.0
short_number (Boot number source entries) is = is.0
short_number (Out source lo hi) is = absurd is

-- any text may follow a line
abbrev pub MayAny : List ℕ → Type 0
MayAny rest = Unit {0}

node_again : (line : ℕ) (x : Line) (rest : List ℕ) → IsNodeLine x → MayAny rest → node_line_at line (line_text x ++ rest) ≡ Ok (x, rest)
unfolding node_line_at
node_again line x rest is may =
    let form = word_of_form x ++ (behind_word x ++ rest) in
    let regrouped : line_text x ++ rest ≡ field (codes "%") (number_of x) ++ (codes " = " ++ form) = ap (λ w. w ++ rest) (sym (line_parts x is)) ∙ regroup_line (field (codes "%") (number_of x)) (codes " = ") (word_of_form x) (behind_word x) rest in
    ap (node_line_at line) regrouped
    ∙ rw (field_again line (codes "%") (number_of x) (codes " = " ++ form) (short_number x is) refl, words_again line (codes " = ") form) (forms_again line x rest is)

line_long : (x : Line) → 1 ≤ length (line_text x)
line_long (Input number lo hi) = omega arith
line_long (Lin number constant terms) = omega arith
line_long (Switch number source) = omega arith
line_long (Boot number source entries) = omega arith
line_long (Out source lo hi) = omega arith

pub node_reads : ReadsItem node_line_at line_text IsNodeLine MayAny
node_reads = record { again = node_again; follows = λ x rest is. tt; long = λ x is. line_long x }

-- ---- outs

pub out_takes : TakesItem out_line_at line_text IsOutLine
unfolding out_line_at
out_takes line bytes x e =
    let source = value_of_step (field_at line (codes "out %") bytes) (λ source. field_at line (codes " ") source.1 >>= λ lo. last_field_at line (codes " ") lo.1 >>= λ hi. Ok (Out source.0 lo.0 hi.0, hi.1)) x e in
    let lo = value_of_step (field_at line (codes " ") source.0.1) (λ lo. last_field_at line (codes " ") lo.1 >>= λ hi. Ok (Out source.0.0 lo.0 hi.0, hi.1)) x source.2 in
    let hi = value_of_step (last_field_at line (codes " ") lo.0.1) (λ hi. Ok (Out source.0.0 lo.0.0 hi.0, hi.1)) x lo.2 in
    let t1 = field_taken line (codes "out %") bytes source.0 source.1 in
    let t2 = field_taken line (codes " ") source.0.1 lo.0 lo.1 in
    let t3 = last_field_taken line (codes " ") lo.0.1 hi.0 hi.1 in
    let whole = join_three bytes (field (codes "out %") source.0.0) (field (codes " ") lo.0.0) (last_field (codes " ") hi.0.0) source.0.1 lo.0.1 hi.0.1 t1.parts t2.parts t3.parts in
    at_given (λ y. (bytes ≡ line_text y.0 ++ y.1) × IsOutLine y.0) (Out source.0.0 lo.0.0 hi.0.0, hi.0.1) x hi.2 (whole, (t1.short, t2.short, t3.short))

out_again : (line : ℕ) (x : Line) (rest : List ℕ) → IsOutLine x → MayAny rest → out_line_at line (line_text x ++ rest) ≡ Ok (x, rest)
unfolding out_line_at
out_again line (Input number lo hi) rest is may = absurd is
out_again line (Lin number constant terms) rest is may = absurd is
out_again line (Switch number source) rest is may = absurd is
out_again line (Boot number source entries) rest is may = absurd is
out_again line (Out source lo hi) rest is may =
    let last = last_field (codes " ") hi ++ rest in
    let middle = field (codes " ") lo ++ last in
    ap (out_line_at line) (regroup_three (field (codes "out %") source) (field (codes " ") lo) (last_field (codes " ") hi) rest)
    ∙ rw (field_again line (codes "out %") source middle is.0 refl, field_again line (codes " ") lo last is.1 refl, last_field_again line (codes " ") hi rest is.2) refl

pub out_reads : ReadsItem out_line_at line_text IsOutLine MayAny
out_reads = record { again = out_again; follows = λ x rest is. tt; long = λ x is. line_long x }

-- ---- where lines of a kind end

-- neither the line of an out nor that of the end begins like a node's
pub node_stops : (rest : List ℕ) (line : ℕ) → node_line_at line (codes "out %" ++ rest) ≡ Err (misspelled line)
unfolding node_line_at field_at literal_at
node_stops rest line = refl

pub node_stops_at_end : (rest : List ℕ) (line : ℕ) → node_line_at line (codes "end" ++ rest) ≡ Err (misspelled line)
unfolding node_line_at field_at literal_at
node_stops_at_end rest line = refl

pub out_stops_at_end : (rest : List ℕ) (line : ℕ) → out_line_at line (codes "end" ++ rest) ≡ Err (misspelled line)
unfolding out_line_at field_at literal_at
out_stops_at_end rest line = refl
