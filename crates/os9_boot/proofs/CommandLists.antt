-- Lists of calls.
use Rattle.std.proofs.Common.{◌≡◌, ◌≢◌, ℕ, Bool, true, false, Option, Some, None, List, [], ◌∷◌, ◌++◌, option_map, All, refl, sym, subst, ap, ◌∙◌}
use Rattle.std.specs.List.{cons_option}
use Rattle.std.specs.Prelude.{if◌then◌else◌}
use Rattle.std.proofs.lemmas.List.Elements.{All-head, All-tail}
use Rattle.os9_base.specs.declared.registers.TimePacket.{TimePacket}
use Rattle.os9_outer.specs.Host.{file_contents}
use Rattle.os9_words.specs.declared.vol_words.Verb.{Verb}
use Rattle.os9_words.specs.declared.vol_words.Verb.TheVariants.{Format, Get}
use Rattle.rbf_model.specs.Volume.{DiskVolume, Vol}
use Rattle.rbf_access.specs.Mounted.{RepresentsVolume}
use Rattle.vol_tools.specs.Blank.{blank_volume}
use Rattle.vol_tools.specs.Tool.{Tool}
use Rattle.vol_tools.specs.UsesInTurn.{Use, none}
use Rattle.vol_tools.specs.InTurn.{LeavesInTurn}
use Rattle.vol_tools.proofs.Turns.{lists_join}
use Rattle.os9_boot.specs.NewDisk.{LeavesNew}
use Rattle.os9_boot.proofs.Lists.{from_new}
use Rattle.os9_boot.specs.Vol.{file_of, path_of, tool_of, vol_tool}
use Rattle.os9_boot.specs.Turns.{CallsInTurn, IsTurnOn, KeepsDisk, FinishedVolCall, disk_of, is_done, uses_of}
use Rattle.os9_boot.proofs.Calls.{Outcome, done, done-leaves, file-bytes, left, left-same, old-is, outcome}
use Rattle.os9_boot.proofs.CallVerbs.{Leaves, on-image, use-at}

-- the file holds what tools give in turn
abbrev pub Comes : List Use → (old new : List ℕ) → Type 0
Comes uses old new = (answers : List (List ℕ)) × LeavesInTurn uses (Some old) (Some new) answers

abbrev pub ComesNew : (format : FinishedVolCall) (later : List FinishedVolCall) (new : List ℕ) → Type 0
ComesNew format later new =
    (answers : List (List ℕ)) × LeavesNew (disk_of format.vol) (uses_of later) (Some new) answers

of-image : (image : List ℕ) (v : DiskVolume) → RepresentsVolume (Some image) v → Vol image v
of-image image v on = let same : image ≡ on.image = cc on.is in subst (λ image. Vol image v) (sym same) on.vol

no-tool : (verb : Verb) (path bytes : List ℕ) → tool_of verb path bytes ≡ None → verb ≡ Format
no-tool Format path bytes is = refl
no-tool verb path bytes is = absurd (cc is)

-- ---- the uses of a list, by the call at its front

-- what `use_of` is, by the status and the tool
abbrev use-by : Bool → Option Tool → TimePacket → Option Use
use-by ended tool start = if ended then option_map (λ tool. record { tool = tool; now = start }) tool else None

with-done : (turn : FinishedVolCall) (turns : List FinishedVolCall) (tool : Tool) → is_done turn ≡ true
    → vol_tool turn.files turn.vol ≡ Some tool → uses_of (turn ∷ turns) ≡ use-at tool turn.vol ∷ uses_of turns
with-done turn turns tool told has =
    ap (λ one. cons_option one (uses_of turns)) (ap (λ ended. use-by ended (vol_tool turn.files turn.vol) turn.vol.start) told ∙ ap (λ tool. use-by true tool turn.vol.start) has)

with-left : (turn : FinishedVolCall) (turns : List FinishedVolCall) → is_done turn ≡ false → uses_of (turn ∷ turns) ≡ uses_of turns
with-left turn turns told =
    ap (λ ended. cons_option (use-by ended (vol_tool turn.files turn.vol) turn.vol.start) (uses_of turns)) told

-- ---- a call at the front

behind-done : (turn : FinishedVolCall) (turns : List FinishedVolCall) (old mid new : List ℕ) → KeepsDisk turn → is_done turn ≡ true
    → (tool : Option Tool) → vol_tool turn.files turn.vol ≡ tool → Leaves tool turn.vol old mid
    → ((v : DiskVolume) → Vol mid v → Comes (uses_of turns) mid new) → Comes (uses_of (turn ∷ turns)) old new
behind-done turn turns old mid new keeps told None made leaves rest =
    absurd (keeps.tool (no-tool turn.vol.verb (path_of turn.vol) (file-bytes turn) made))
behind-done turn turns old mid new keeps told (Some tool) made (answer, leaves) rest =
    let (answers, later) = rest leaves.after (of-image mid leaves.after leaves.is) in
    let joined = lists_join (use-at tool turn.vol ∷ []) (uses_of turns) (Some old) (Some mid) (Some new) (answer ∷ []) answers leaves later in
    (answer ∷ answers, subst (λ uses. LeavesInTurn uses (Some old) (Some new) (answer ∷ answers)) (sym (with-done turn turns tool told made)) joined)

behind-left : (turn : FinishedVolCall) (turns : List FinishedVolCall) (old mid new : List ℕ) → is_done turn ≡ false → mid ≡ old
    → Comes (uses_of turns) mid new → Comes (uses_of (turn ∷ turns)) old new
behind-left turn turns old mid new told kept rest =
    subst (λ uses. Comes uses old new) (sym (with-left turn turns told)) (subst (λ held. Comes (uses_of turns) held new) kept rest)

by-outcome : (name old new : List ℕ) (turn : FinishedVolCall) (turns : List FinishedVolCall) (is : IsTurnOn name old turn) → KeepsDisk turn
    → Outcome turn is.called
    → ((v : DiskVolume) → Vol (file_contents turn.now name) v → Comes (uses_of turns) (file_contents turn.now name) new)
    → Comes (uses_of (turn ∷ turns)) old new
by-outcome name old new turn turns is keeps (done it) rest =
    let apart : turn.vol.verb ≡ Get → file_of turn.vol ≢ turn.vol.image = λ gets over. keeps.apart (record { verb = gets; file = over; done = it.told }) in
    behind-done turn turns old (file_contents turn.now name) new keeps it.told (vol_tool turn.files turn.vol) refl (done-leaves name old turn is apart it) rest
by-outcome name old new turn turns is keeps (left it) rest =
    let kept : file_contents turn.now name ≡ old = left-same name old turn is it in
    let was : Vol (file_contents turn.now name) it.volume = subst (λ image. Vol image it.volume) (old-is name old turn is ∙ sym kept) it.was in
    behind-left turn turns old (file_contents turn.now name) new it.told kept (rest it.volume was)

behind : (name old new : List ℕ) (turn : FinishedVolCall) (turns : List FinishedVolCall) → All KeepsDisk (turn ∷ turns)
    → CallsInTurn name (turn ∷ turns) old new
    → ((v : DiskVolume) → Vol (file_contents turn.now name) v → All KeepsDisk turns
    → CallsInTurn name turns (file_contents turn.now name) new → Comes (uses_of turns) (file_contents turn.now name) new)
    → Comes (uses_of (turn ∷ turns)) old new
behind name old new turn turns keep calls rest =
    by-outcome name old new turn turns calls.0 (All-head KeepsDisk turn turns keep) (outcome name old turn calls.0) (λ v was. rest v was (All-tail KeepsDisk turn turns keep) calls.1)

-- ---- lists

-- on the image of a volume
along : (name : List ℕ) (turns : List FinishedVolCall) (old new : List ℕ) (v : DiskVolume) → Vol old v → All KeepsDisk turns
    → CallsInTurn name turns old new → Comes (uses_of turns) old new
along name [] old new v was keep calls = (
  [],
  record {
    before = v;
    was = on-image old v was;
    after = v;
    is = on-image new v (subst (λ image. Vol image v) (sym calls) was);
    gives = none;
  },
)
along name (turn ∷ turns) old new v was keep calls =
    behind name old new turn turns keep calls (along name turns (file_contents turn.now name) new)

-- the first call finds the image of a volume
pub some-calls : (name : List ℕ) (turns : List FinishedVolCall) (old new : List ℕ) → turns ≢ [] → All KeepsDisk turns
    → CallsInTurn name turns old new → Comes (uses_of turns) old new
some-calls name [] old new some keep calls = absurd (some refl)
some-calls name (turn ∷ turns) old new some keep calls =
    behind name old new turn turns keep calls (along name turns (file_contents turn.now name) new)

-- the calls from one on
from-one : (name : List ℕ) (earlier later : List FinishedVolCall) (turn : FinishedVolCall) (old new : List ℕ)
    → CallsInTurn name (earlier ++ turn ∷ later) old new → (mid : List ℕ) × CallsInTurn name (turn ∷ later) mid new
from-one name [] later turn old new calls = (old, calls)
from-one name (first ∷ earlier) later turn old new calls =
    from-one name earlier later turn (file_contents first.now name) new calls.1

-- from a new disk on
new-disk : (name : List ℕ) (later : List FinishedVolCall) (format : FinishedVolCall) (old new : List ℕ) → format.vol.verb ≡ Format
    → All KeepsDisk later → CallsInTurn name (format ∷ later) old new → ComesNew format later new
new-disk name later format old new is keep calls = by (outcome name old format calls.0)
  where
    mid : List ℕ
    mid = file_contents format.now name

    blank : DiskVolume
    blank = blank_volume format.vol.sectors format.vol.cluster format.vol.start

    no-get : format.vol.verb ≡ Get → file_of format.vol ≢ format.vol.image
    no-get gets = absurd (cc (is, gets))

    by : Outcome format calls.0.called → ComesNew format later new
    by (left it) = absurd (it.tool is)
    by (done it) =
        let none : vol_tool format.files format.vol ≡ None = ap (λ verb. tool_of verb (path_of format.vol) (file-bytes format)) is in
        let was : Vol mid blank = subst (λ tool. Leaves tool format.vol old mid) none (done-leaves name old format calls.0 no-get it) in
        let (answers, leaves) = along name later mid new blank was keep calls.1 in
        (answers, from_new (disk_of format.vol) mid (uses_of later) (Some new) answers was leaves)

pub from-format : (name : List ℕ) (earlier later : List FinishedVolCall) (format : FinishedVolCall) (old new : List ℕ)
    → format.vol.verb ≡ Format → All KeepsDisk later → CallsInTurn name (earlier ++ format ∷ later) old new
    → ComesNew format later new
from-format name earlier later format old new is keep calls =
    let (mid, rest) = from-one name earlier later format old new calls in
    new-disk name later format mid new is keep rest
