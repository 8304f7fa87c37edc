-- Results of operations, each from those of its operands.
use Rattle.std.proofs.Common.{◌≡◌, ℕ, ◌+◌, ◌<◌, false, List, [], ◌∷◌, ◌++◌, length, map, get_or, All, sym, refl, ap, ◌∙◌, subst, arith, ℤ, pos, ◌+ℤ◌, ◌*ℤ◌}
use Rattle.std.specs.Prelude.{unsigned_abs}
use Rattle.std.specs.List.{AllByRecursion}
use Rattle.std.proofs.lemmas.Bool.{true≢false}
use Rattle.std.proofs.lemmas.List.{get_or_at, get_or_append_left, append_assoc, length-append}
use Rattle.std.proofs.lemmas.List.Elements.{All-weaker, All-head, recursion_from_All}
use Rattle.forms.specs.Forms.{int_sum, number_at, range_at, form_value, form_range, least_of_term, greatest_of_term}
use Rattle.forms.specs.Terms.{leaves_of}
use Rattle.forms.specs.FromEarlier.{from_earlier, from_earlier-append, length-from_earlier, from_earlier_keeps}
use Rattle.tfhe_level.specs.declared.level.TfheOp.{TfheOp}
use Rattle.tfhe_level.specs.declared.level.TfheOp.TheVariants.{Input, Lin, Switch, Boot, Out}
use Rattle.tfhe_level.specs.Operations.{operands_of, is_input, is_out}
use Rattle.tfhe_level.specs.Nodes.{value_of, range_of}

-- ---- a node at a place

-- a node stands at a place
pub record StandsAt (nodes : List TfheOp) (place : ℕ) (node : TfheOp) : Type 0 where
  pub before : List TfheOp
  pub rest : List TfheOp
  pub split : nodes ≡ before ++ node ∷ rest
  pub number : length before ≡ place

pub stands_more : (nodes more : List TfheOp) (place : ℕ) (node : TfheOp) → StandsAt nodes place node → StandsAt (nodes ++ more) place node
stands_more nodes more place node at = record {
  before = at.before;
  rest = at.rest ++ more;
  split = ap (λ l. l ++ more) at.split ∙ append_assoc at.before (node ∷ at.rest) more;
  number = at.number;
}

pub stands_last : (nodes : List TfheOp) (node : TfheOp) → StandsAt (nodes ++ node ∷ []) (length nodes) node
stands_last nodes node = record { before = nodes; rest = []; split = refl; number = refl }

pub stands_below : (nodes : List TfheOp) (place : ℕ) (node : TfheOp) → StandsAt nodes place node → place < length nodes
stands_below nodes place node at = omega (arith, at.number, ap length at.split, length-append at.before (node ∷ at.rest))

-- ---- operands are earlier ones

-- a node whose operands are below its number, and which is no out
pub record IsSoundNode (count : ℕ) (op : TfheOp) : Type 0 where
  pub operands : All (λ operand. operand < count) (operands_of op)
  pub no_out : is_out op ≡ false

-- so are all nodes, whose numbers are counted from here
abbrev pub AreSoundFrom : ℕ → List TfheOp → Type 0
AreSoundFrom count [] = Unit {0}
AreSoundFrom count (op ∷ operations) = IsSoundNode count op × AreSoundFrom (count + 1) operations

sound_at : (count other : ℕ) (op : TfheOp) → count ≡ other → IsSoundNode count op → IsSoundNode other op
sound_at count other op same is = subst (λ n. IsSoundNode n op) same is

pub sound_push : (count : ℕ) (nodes : List TfheOp) (op : TfheOp) → AreSoundFrom count nodes → IsSoundNode (count + length nodes) op → AreSoundFrom count (nodes ++ op ∷ [])
sound_push count [] op are is = (sound_at (count + 0) count op (omega arith) is, tt)
sound_push count (node ∷ nodes) op are is =
    (are.0, sound_push (count + 1) nodes op are.1 (sound_at (count + length (node ∷ nodes)) ((count + 1) + length nodes) op (omega arith) is))

pub node_sound : (count : ℕ) (before rest : List TfheOp) (op : TfheOp) → AreSoundFrom count (before ++ op ∷ rest) → IsSoundNode (count + length before) op
node_sound count [] rest op are = sound_at count (count + 0) op (omega arith) are.0
node_sound count (node ∷ before) rest op are =
    sound_at ((count + 1) + length before) (count + length (node ∷ before)) op (omega arith) (node_sound (count + 1) before rest op are.1)

-- ---- results

-- the result of an operation that is no input hangs on those of its operands alone
abbrev pub HangsOnOperands : {B : Type 0} → (List B → TfheOp → B) → Type 0
HangsOnOperands {B} result_of = (earlier more : List B) (op : TfheOp) → is_input op ≡ false → All (λ operand. operand < length earlier) (operands_of op) → result_of (earlier ++ more) op ≡ result_of earlier op

-- the results of the first nodes stay
pub result_kept : {B : Type 0} (result_of : List B → TfheOp → B) (nodes more : List TfheOp) (place : ℕ) (d : B) → place < length nodes → get_or (from_earlier result_of [] (nodes ++ more)) place d ≡ get_or (from_earlier result_of [] nodes) place d
result_kept result_of nodes more place d below =
    let first = from_earlier result_of [] nodes in
    let keeps = from_earlier_keeps result_of first more in
    let long : length first ≡ length nodes = omega (arith, length-from_earlier result_of [] nodes) in
    ap (λ l. get_or l place d) (from_earlier-append result_of [] nodes more ∙ keeps.1) ∙ get_or_append_left first keeps.0 d place (omega (arith, long, below))

-- the result at a place is that of the node there from all results
pub result_at : {B : Type 0} (result_of : List B → TfheOp → B) → HangsOnOperands result_of → (d : B) (nodes : List TfheOp) (place : ℕ) (op : TfheOp) → StandsAt nodes place op → is_input op ≡ false → AreSoundFrom 0 nodes → get_or (from_earlier result_of [] nodes) place d ≡ result_of (from_earlier result_of [] nodes) op
result_at result_of hangs d nodes place op at is_not are =
    let first = from_earlier result_of [] at.before in
    let one = result_of first op in
    let keeps = from_earlier_keeps result_of (first ++ one ∷ []) at.rest in
    let long : length first ≡ length at.before = omega (arith, length-from_earlier result_of [] at.before) in
    let whole : from_earlier result_of [] nodes ≡ first ++ (one ∷ keeps.0)
    = ap (from_earlier result_of []) at.split ∙ from_earlier-append result_of [] at.before (op ∷ at.rest) ∙ keeps.1 ∙ append_assoc first (one ∷ []) keeps.0 in
    let on = (node_sound 0 at.before at.rest op (subst (AreSoundFrom 0) at.split are)).operands in
    let on' : All (λ (o : ℕ). o < length first) (operands_of op) = All-weaker (λ (o : ℕ). o < 0 + length at.before) (λ (o : ℕ). o < length first) (λ o l. omega (arith, long, l)) (operands_of op) on in
    let left : get_or (from_earlier result_of [] nodes) place d ≡ one = ap (λ l. get_or l place d) whole ∙ get_or_at first one keeps.0 d place (long ∙ at.number) in
    let right : result_of (from_earlier result_of [] nodes) op ≡ one = ap (λ l. result_of l op) whole ∙ hangs first (one ∷ keeps.0) op is_not on' in
    left ∙ sym right

-- ---- values hang on operands, and so do ranges

sum_kept : (earlier more : List ℤ) (terms : List (ℕ × ℤ)) → AllByRecursion (λ o. o < length earlier) (leaves_of terms) → int_sum (map (λ (t : ℕ × ℤ). t.1 *ℤ number_at (earlier ++ more) t.0) terms) ≡ int_sum (map (λ (t : ℕ × ℤ). t.1 *ℤ number_at earlier t.0) terms)
sum_kept earlier more [] on = refl
sum_kept earlier more (t ∷ ts) on =
    let first : number_at (earlier ++ more) t.0 ≡ number_at earlier t.0 = get_or_append_left earlier more (pos 0) t.0 on.0 in
    let rest = sum_kept earlier more ts on.1 in
    rw first (rw rest refl)

least_kept : (earlier more : List (ℤ × ℤ)) (terms : List (ℕ × ℤ)) → AllByRecursion (λ o. o < length earlier) (leaves_of terms) → int_sum (map (least_of_term (earlier ++ more)) terms) ≡ int_sum (map (least_of_term earlier) terms)
least_kept earlier more [] on = refl
least_kept earlier more (t ∷ ts) on =
    let first : range_at (earlier ++ more) t.0 ≡ range_at earlier t.0 = get_or_append_left earlier more (pos 0, pos 0) t.0 on.0 in
    let rest = least_kept earlier more ts on.1 in
    rw first (rw rest refl)

greatest_kept : (earlier more : List (ℤ × ℤ)) (terms : List (ℕ × ℤ)) → AllByRecursion (λ o. o < length earlier) (leaves_of terms) → int_sum (map (greatest_of_term (earlier ++ more)) terms) ≡ int_sum (map (greatest_of_term earlier) terms)
greatest_kept earlier more [] on = refl
greatest_kept earlier more (t ∷ ts) on =
    let first : range_at (earlier ++ more) t.0 ≡ range_at earlier t.0 = get_or_append_left earlier more (pos 0, pos 0) t.0 on.0 in
    let rest = greatest_kept earlier more ts on.1 in
    rw first (rw rest refl)

pub form_value_kept : (constant : ℤ) (terms : List (ℕ × ℤ)) (earlier more : List ℤ) → AllByRecursion (λ o. o < length earlier) (leaves_of terms) → form_value constant terms (earlier ++ more) ≡ form_value constant terms earlier
form_value_kept constant terms earlier more on = ap (λ s. constant +ℤ s) (sum_kept earlier more terms on)

pub form_range_kept : (constant : ℤ) (terms : List (ℕ × ℤ)) (earlier more : List (ℤ × ℤ)) → AllByRecursion (λ o. o < length earlier) (leaves_of terms) → form_range constant terms (earlier ++ more) ≡ form_range constant terms earlier
form_range_kept constant terms earlier more on =
    let least = least_kept earlier more terms on in
    let greatest = greatest_kept earlier more terms on in
    rw least (rw greatest refl)

pub values_hang : (inputs : List ℤ) → HangsOnOperands (value_of inputs)
values_hang inputs earlier more (Input lo hi) is_not on = absurd (true≢false is_not)
values_hang inputs earlier more (Lin constant terms) is_not on = form_value_kept constant terms earlier more (recursion_from_All (λ (o : ℕ). o < length earlier) (leaves_of terms) on)
values_hang inputs earlier more (Switch source) is_not on = get_or_append_left earlier more (pos 0) source (All-head (λ (o : ℕ). o < length earlier) source [] on)
values_hang inputs earlier more (Boot source entries) is_not on =
    ap (λ v. number_at entries (unsigned_abs v)) (get_or_append_left earlier more (pos 0) source (All-head (λ (o : ℕ). o < length earlier) source [] on))
values_hang inputs earlier more (Out source lo hi) is_not on = get_or_append_left earlier more (pos 0) source (All-head (λ (o : ℕ). o < length earlier) source [] on)

pub ranges_hang : HangsOnOperands range_of
ranges_hang earlier more (Input lo hi) is_not on = refl
ranges_hang earlier more (Lin constant terms) is_not on = form_range_kept constant terms earlier more (recursion_from_All (λ (o : ℕ). o < length earlier) (leaves_of terms) on)
ranges_hang earlier more (Switch source) is_not on = get_or_append_left earlier more (pos 0, pos 0) source (All-head (λ (o : ℕ). o < length earlier) source [] on)
ranges_hang earlier more (Boot source entries) is_not on = refl
ranges_hang earlier more (Out source lo hi) is_not on = refl
