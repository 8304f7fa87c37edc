-- The ranges that the width must hold, one operation after the other.
use Rattle.std.proofs.Common.{◌≡◌, ℕ, ◌<◌, Bool, true, false, cond, List, [], ◌∷◌, ◌++◌, length, map, get_or, sym, refl, ap, ◌∙◌, subst, arith, ℤ, pos, ◌<ℤ◌, ◌^◌}
use Prim.Native.Nat.{zero, suc}
use Rattle.std.specs.Prelude.{filter}
use Rattle.std.specs.List.{AllByRecursion, zip, flat_map}
use Rattle.std.proofs.lemmas.Bool.{false≢true}
use Rattle.std.proofs.lemmas.List.{append_assoc, append-nil}
use Rattle.std.proofs.lemmas.List.Elements.{recursion_from_All}
use Rattle.forms.specs.Forms.{range_at, form_range, span_of}
use Rattle.forms.specs.Terms.{leaves_of}
use Rattle.forms.specs.FromEarlier.{from_earlier, from_earlier_push, from_earlier_keeps, length-from_earlier}
use Rattle.ap_level.specs.declared.level.ApOp.{ApOp}
use Rattle.ap_level.specs.declared.level.ApOp.TheVariants as patterns
use Rattle.ap_level.specs.Patterns as on_patterns
use Rattle.ap_level.specs.Rules as patterns_rules
use Rattle.tfhe_level.specs.declared.level.TfheOp.{TfheOp}
use Rattle.tfhe_level.specs.Nodes.{range_of, node_ranges}
use Rattle.tfhe_level.specs.Rules.{is_message, message_ranges}
use Rattle.place_pass.specs.Placing.{Put}
use Rattle.place_pass.proofs.Solving.{StandsAt, form_range_kept}
use Rattle.place_pass.proofs.Puts.{IsPut, put_keeps}

-- ---- all of joined lists

pub all_join : {A : Type 0} (P : A → Type 0) (xs ys : List A) → AllByRecursion P xs → AllByRecursion P ys → AllByRecursion P (xs ++ ys)
all_join P [] ys a b = b
all_join P (x ∷ xs) ys a b = (a.0, all_join P xs ys a.1 b)

pub all_parts : {A : Type 0} (P : A → Type 0) (xs ys : List A) → AllByRecursion P (xs ++ ys) → AllByRecursion P xs × AllByRecursion P ys
all_parts P [] ys a = (tt, a)
all_parts P (x ∷ xs) ys a =
    let rest = all_parts P xs ys a.1 in
    ((a.0, rest.0), rest.1)

-- a width holds a range
abbrev pub Fits : ℕ → ℤ × ℤ → Type 0
Fits width range = span_of range <ℤ pos (2 ^ width)

-- ---- of nodes

abbrev messages_in : List TfheOp → List (ℤ × ℤ) → List (ℤ × ℤ)
messages_in operations ranges = map (λ node. node.1) (filter (λ node. is_message node.0) (zip operations ranges))

one_more : (message : Bool) (op : TfheOp) (range : ℤ × ℤ) (rest : List (TfheOp × (ℤ × ℤ))) (more : List (TfheOp × (ℤ × ℤ))) (tail : List (ℤ × ℤ))
    → map (λ node. node.1) more ≡ map (λ node. node.1) rest ++ tail
    → map (λ node. node.1) (cond message ((op, range) ∷ more) more) ≡ map (λ node. node.1) (cond message ((op, range) ∷ rest) rest) ++ tail
one_more true op range rest more tail same = ap (λ l. range ∷ l) same
one_more false op range rest more tail same = same

last_one : (message : Bool) (op : TfheOp) (range : ℤ × ℤ) → map (λ (node : TfheOp × (ℤ × ℤ)). node.1) (cond message ((op, range) ∷ []) []) ≡ cond message (range ∷ []) []
last_one true op range = refl
last_one false op range = refl

messages_push : (operations : List TfheOp) (ranges : List (ℤ × ℤ)) (op : TfheOp) (range : ℤ × ℤ) → length ranges ≡ length operations → messages_in (operations ++ op ∷ []) (ranges ++ range ∷ []) ≡ messages_in operations ranges ++ cond (is_message op) (range ∷ []) []
messages_push [] [] op range same = last_one (is_message op) op range
messages_push [] (r ∷ ranges) op range same = absurd (omega (arith, same))
messages_push (o ∷ operations) [] op range same = absurd (omega (arith, same))
messages_push (o ∷ operations) (r ∷ ranges) op range same =
    one_more (is_message o) o r (filter (λ node. is_message node.0) (zip operations ranges)) (filter (λ node. is_message node.0) (zip (operations ++ op ∷ []) (ranges ++ range ∷ []))) (cond (is_message op) (range ∷ []) []) (messages_push operations ranges op range (omega (arith, same)))

many_ranges : (operations : List TfheOp) → length (node_ranges operations) ≡ length operations
many_ranges operations = omega (arith, length-from_earlier range_of [] operations)

-- one node more
pub message_push : (nodes : List TfheOp) (op : TfheOp) → message_ranges (nodes ++ op ∷ []) ≡ message_ranges nodes ++ cond (is_message op) (range_of (node_ranges nodes) op ∷ []) []
message_push nodes op =
    ap (messages_in (nodes ++ op ∷ [])) (from_earlier_push range_of [] nodes op) ∙ messages_push nodes (node_ranges nodes) op (range_of (node_ranges nodes) op) (many_ranges nodes)

pub no_message_more : (nodes : List TfheOp) (op : TfheOp) → is_message op ≡ false → message_ranges (nodes ++ op ∷ []) ≡ message_ranges nodes
no_message_more nodes op is_not = message_push nodes op ∙ ap (λ b. message_ranges nodes ++ cond b (range_of (node_ranges nodes) op ∷ []) []) is_not ∙ append-nil (message_ranges nodes)

pub no_message_put : (node : TfheOp) (nodes : List TfheOp) (put : Put) → IsPut node nodes put → is_message node ≡ false → message_ranges put.nodes ≡ message_ranges nodes
no_message_put node nodes put is is_not = put_keeps (λ (l : List TfheOp). message_ranges l ≡ message_ranges nodes) node nodes put is refl (no_message_more nodes node is_not)

-- the range at the place of a message is one of them
head_in : (P : ℤ × ℤ → Type 0) (message : Bool) (op : TfheOp) (range : ℤ × ℤ) (rest : List (TfheOp × (ℤ × ℤ))) → AllByRecursion P (map (λ node. node.1) (cond message ((op, range) ∷ rest) rest)) → message ≡ true → P range
head_in P true op range rest all is = all.0
head_in P false op range rest all is = absurd (false≢true is)

tail_in : (P : ℤ × ℤ → Type 0) (message : Bool) (op : TfheOp) (range : ℤ × ℤ) (rest : List (TfheOp × (ℤ × ℤ))) → AllByRecursion P (map (λ node. node.1) (cond message ((op, range) ∷ rest) rest)) → AllByRecursion P (map (λ node. node.1) rest)
tail_in P true op range rest all = all.1
tail_in P false op range rest all = all

message_in : (P : ℤ × ℤ → Type 0) (before rest : List TfheOp) (op : TfheOp) (ranges : List (ℤ × ℤ)) → length ranges ≡ length (before ++ op ∷ rest) → is_message op ≡ true → AllByRecursion P (messages_in (before ++ op ∷ rest) ranges) → P (get_or ranges (length before) (pos 0, pos 0))
message_in P [] rest op [] same is all = absurd (omega (arith, same))
message_in P [] rest op (r ∷ ranges) same is all = head_in P (is_message op) op r (filter (λ node. is_message node.0) (zip rest ranges)) all is
message_in P (o ∷ before) rest op [] same is all = absurd (omega (arith, same))
message_in P (o ∷ before) rest op (r ∷ ranges) same is all =
    message_in P before rest op ranges (omega (arith, same)) is (tail_in P (is_message o) o r (filter (λ node. is_message node.0) (zip (before ++ op ∷ rest) ranges)) all)

pub message_at : (P : ℤ × ℤ → Type 0) (nodes : List TfheOp) (place : ℕ) (op : TfheOp) → StandsAt nodes place op → is_message op ≡ true → AllByRecursion P (message_ranges nodes) → P (range_at (node_ranges nodes) place)
message_at P nodes place op at is all =
    let long : length (node_ranges nodes) ≡ length (at.before ++ op ∷ at.rest) = many_ranges nodes ∙ ap length at.split in
    let there : AllByRecursion P (messages_in (at.before ++ op ∷ at.rest) (node_ranges nodes)) = subst (λ l. AllByRecursion P (messages_in l (node_ranges nodes))) at.split all in
    subst (λ n. P (range_at (node_ranges nodes) n)) at.number (message_in P at.before at.rest op (node_ranges nodes) long is there)

-- ---- of patterns

-- the ranges of forms, each from the ranges of the operations before it
abbrev pub forms_from : List (ℤ × ℤ) → List ApOp → List (ℤ × ℤ)
forms_from earlier [] = []
forms_from earlier (op ∷ operations) = patterns_rules.ranges_on earlier op ++ forms_from (earlier ++ on_patterns.range_of earlier op ∷ []) operations

pub forms_push : (earlier : List (ℤ × ℤ)) (operations : List ApOp) (op : ApOp) → forms_from earlier (operations ++ op ∷ []) ≡ forms_from earlier operations ++ patterns_rules.ranges_on (from_earlier on_patterns.range_of earlier operations) op
forms_push earlier [] op = append-nil (patterns_rules.ranges_on earlier op)
forms_push earlier (first ∷ operations) op =
    ap (λ l. patterns_rules.ranges_on earlier first ++ l) (forms_push (earlier ++ on_patterns.range_of earlier first ∷ []) operations op)
    ∙ sym (append_assoc (patterns_rules.ranges_on earlier first) (forms_from (earlier ++ on_patterns.range_of earlier first ∷ []) operations) (patterns_rules.ranges_on (from_earlier on_patterns.range_of (earlier ++ on_patterns.range_of earlier first ∷ []) operations) op))

pub forms_append : (earlier : List (ℤ × ℤ)) (operations others : List ApOp) → forms_from earlier (operations ++ others) ≡ forms_from earlier operations ++ forms_from (from_earlier on_patterns.range_of earlier operations) others
forms_append earlier [] others = refl
forms_append earlier (first ∷ operations) others =
    ap (λ l. patterns_rules.ranges_on earlier first ++ l) (forms_append (earlier ++ on_patterns.range_of earlier first ∷ []) operations others)
    ∙ sym (append_assoc (patterns_rules.ranges_on earlier first) (forms_from (earlier ++ on_patterns.range_of earlier first ∷ []) operations) (forms_from (from_earlier on_patterns.range_of (earlier ++ on_patterns.range_of earlier first ∷ []) operations) others))

within : (operations : List ApOp) (place : ℕ) → patterns_rules.IsLeafAt operations place → place < length operations
within [] place at = absurd at
within (op ∷ operations) zero at = omega arith
within (op ∷ operations) (suc place) at = omega (arith, within operations place at)

terms_within : (earlier : List ApOp) (count : ℕ) (terms : List (ℕ × ℤ)) → length earlier ≡ count → AllByRecursion (patterns_rules.IsTerm earlier) terms → AllByRecursion (λ o. o < count) (leaves_of terms)
terms_within earlier count [] same each = tt
terms_within earlier count (t ∷ terms) same each = (omega (arith, same, within earlier t.0 each.0.leaf), terms_within earlier count terms same each.1)

form_kept : (earlier : List ApOp) (constant : ℤ) (terms : List (ℕ × ℤ)) (more : List (ℤ × ℤ)) → patterns_rules.IsForm earlier constant terms → form_range constant terms (on_patterns.pattern_ranges earlier ++ more) ≡ form_range constant terms (on_patterns.pattern_ranges earlier)
form_kept earlier constant terms more form =
    form_range_kept constant terms (on_patterns.pattern_ranges earlier) more
    (terms_within earlier (length (on_patterns.pattern_ranges earlier)) terms (omega (arith, length-from_earlier on_patterns.range_of [] earlier)) (recursion_from_All (patterns_rules.IsTerm earlier) terms form.each))

one_kept : (all earlier : List ApOp) (op : ApOp) (more : List (ℤ × ℤ)) → patterns_rules.KeepsRule all earlier op → patterns_rules.ranges_on (on_patterns.pattern_ranges earlier ++ more) op ≡ patterns_rules.ranges_on (on_patterns.pattern_ranges earlier) op
one_kept all earlier (patterns.Input lo hi) more rule = refl
one_kept all earlier (patterns.Look constant terms entries) more rule = ap (λ r. r ∷ []) (form_kept earlier constant terms more rule.form)
one_kept all earlier (patterns.Out constant terms) more rule = ap (λ r. r ∷ []) (form_kept earlier constant terms more rule.form)

forms_kept : (all earlier operations : List ApOp) (ranges more : List (ℤ × ℤ)) → ranges ≡ on_patterns.pattern_ranges earlier ++ more → ranges ≡ from_earlier on_patterns.range_of (on_patterns.pattern_ranges earlier) operations → patterns_rules.KeepRules all earlier operations
    → flat_map (patterns_rules.ranges_on ranges) operations ≡ forms_from (on_patterns.pattern_ranges earlier) operations
forms_kept all earlier [] ranges more same whole rules = refl
forms_kept all earlier (op ∷ operations) ranges more same whole rules =
    let next : on_patterns.pattern_ranges (earlier ++ op ∷ []) ≡ on_patterns.pattern_ranges earlier ++ on_patterns.range_of (on_patterns.pattern_ranges earlier) op ∷ [] = from_earlier_push on_patterns.range_of [] earlier op in
    let whole' : ranges ≡ from_earlier on_patterns.range_of (on_patterns.pattern_ranges (earlier ++ op ∷ [])) operations = whole ∙ ap (λ l. from_earlier on_patterns.range_of l operations) (sym next) in
    let keeps = from_earlier_keeps on_patterns.range_of (on_patterns.pattern_ranges (earlier ++ op ∷ [])) operations in
    let rest = forms_kept all (earlier ++ op ∷ []) operations ranges keeps.0 (whole' ∙ keeps.1) whole' rules.1 in
    let first : patterns_rules.ranges_on ranges op ≡ patterns_rules.ranges_on (on_patterns.pattern_ranges earlier) op = ap (λ l. patterns_rules.ranges_on l op) same ∙ one_kept all earlier op more rules.0 in
    ap (λ l. l ++ flat_map (patterns_rules.ranges_on ranges) operations) first
    ∙ ap (λ l. patterns_rules.ranges_on (on_patterns.pattern_ranges earlier) op ++ l) (rest ∙ ap (λ l. forms_from l operations) next)

pub forms_whole : (operations : List ApOp) → patterns_rules.KeepRules operations [] operations → patterns_rules.message_ranges operations ≡ forms_from [] operations
forms_whole operations rules = forms_kept operations [] operations (on_patterns.pattern_ranges operations) (on_patterns.pattern_ranges operations) refl refl rules
