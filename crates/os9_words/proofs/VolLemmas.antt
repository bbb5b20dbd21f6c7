-- What the words of `vol` have.
use Rattle.std.proofs.Common.{◌≡◌, ◌≢◌, ◌≤◌, ◌<◌, ◌+◌, ℕ, zero, suc, Bool, true, false, Option, Some, None, List, [], ◌∷◌, ◌++◌, length, take, drop, slice_get, bytes_eq, codes, nat_eq, refl, sym, subst, ap, ◌∙◌, arith, length-drop}
use Rattle.std.specs.Prelude.{option_and_then, nat_le, ◌&&◌, if◌then◌else◌}
use Rattle.std.specs.Option.{option_map_or}
use Rattle.std.proofs.lemmas.Bool.{eqb-true, leb-true}
use Rattle.std.proofs.lemmas.List.{length-take, take_all}
use Rattle.std.proofs.lemmas.Slice.Eq.{bytes_eq-Decides}
use Rattle.os9_base.specs.declared.registers.TimePacket.{TimePacket}
use Rattle.time_rules.specs.CivilTime.{is_time_packet}
use Rattle.text_values.specs.Number.{number_of, within}
use Rattle.rbf_model.specs.Geometry.{is_cluster_size}
use Rattle.option_reader.specs.Given.{Given, value_of}
use Rattle.os9_words.specs.Times.{time_of}
use Rattle.os9_words.specs.Vol.{IsVol, cluster_of, cluster_size, format_with, rest_count, sectors_in, tool_with, verb_of, verb_with, vol_of, vol_with}
use Rattle.os9_words.specs.declared.vol_words.Verb.{Verb}
use Rattle.os9_words.specs.declared.vol_words.Verb.TheVariants.{Format, Put, Get, Mkdir, Delete, Dir, Repair}
use Rattle.os9_words.specs.declared.vol_words.VolWords.{VolWords}

some-same : {X : Type 0} (x y : X) → Some x ≡ Some y → x ≡ y
some-same x y is = cc is

-- ---- numbers

within-one : (least most number n : ℕ) (low high : Bool) → nat_le least number ≡ low → nat_le number most ≡ high → (if low && high then Some number else None) ≡ Some n → (least ≤ n) × (n ≤ most)
within-one least most number n true true low high is =
    let same = some-same number n is in
    (subst (λ k. least ≤ k) same (leb-true least number low), subst (λ k. k ≤ most) same (leb-true number most high))
within-one least most number n true false low high is = absurd (cc is)
within-one least most number n false high low higher is = absurd (cc is)

within-are : (least most : ℕ) (number : Option ℕ) (n : ℕ) → within least most number ≡ Some n → (least ≤ n) × (n ≤ most)
within-are least most None n is = absurd (cc is)
within-are least most (Some number) n is = within-one least most number n (nat_le least number) (nat_le number most) refl refl is

pub sectors-are : (arguments : List (List ℕ)) (sectors : ℕ) → sectors_in arguments ≡ Some sectors → (16 ≤ sectors) × (sectors ≤ 524280)
sectors-are arguments sectors is = by (nat_eq (length arguments) 3) (slice_get arguments 2) is
  where
    by : (three : Bool) (word : Option (List ℕ)) → (if three then option_and_then (λ word. within 16 524280 (number_of word)) word else None) ≡ Some sectors → (16 ≤ sectors) × (sectors ≤ 524280)
    by true None is = absurd (cc is)
    by true (Some word) is = within-are 16 524280 (number_of word) sectors is
    by false word is = absurd (cc is)

pub size-is : (k cluster : ℕ) → cluster_size k ≡ Some cluster → is_cluster_size cluster ≡ true
size-is k cluster is = by (is_cluster_size k) refl is
  where
    by : (right : Bool) → is_cluster_size k ≡ right → (if right then Some k else None) ≡ Some cluster → is_cluster_size cluster ≡ true
    by true right is = subst (λ k. is_cluster_size k ≡ true) (some-same k cluster is) right
    by false right is = absurd (cc is)

pub cluster-is : (given : Given) (cluster : ℕ) → cluster_of given ≡ Some cluster → is_cluster_size cluster ≡ true
cluster-is given cluster is = by (value_of given (codes "cluster")) is
  where
    of : (number : Option ℕ) → option_and_then cluster_size number ≡ Some cluster → is_cluster_size cluster ≡ true
    of None is = absurd (cc is)
    of (Some k) is = size-is k cluster is

    by : (value : Option (List ℕ)) → option_map_or (λ word. option_and_then cluster_size (within 1 64 (number_of word))) value (Some 1) ≡ Some cluster → is_cluster_size cluster ≡ true
    by None is = subst (λ k. is_cluster_size k ≡ true) (some-same 1 cluster is) refl
    by (Some word) is = of (within 1 64 (number_of word)) is

-- ---- the words

pub format-complete : (image : List ℕ) (start : TimePacket) (sectors cluster : Option ℕ) (vol : VolWords)
    → is_time_packet start ≡ true → ((n : ℕ) → sectors ≡ Some n → (16 ≤ n) × (n ≤ 524280))
    → ((k : ℕ) → cluster ≡ Some k → is_cluster_size k ≡ true) → format_with image start sectors cluster ≡ Some vol
    → IsVol vol
format-complete image start None cluster vol civil bounded right is = absurd (cc is)
format-complete image start (Some sectors) None vol civil bounded right is = absurd (cc is)
format-complete image start (Some sectors) (Some cluster) vol civil bounded right is =
    subst IsVol (some-same _ vol is) (record {
      time = civil;
      words = refl;
      disk = λ format. record {
        least = (bounded sectors refl).0;
        most = (bounded sectors refl).1;
        cluster = right cluster refl;
      };
    })

-- behind the verb and IMAGE
rest-length : (arguments : List (List ℕ)) (count : ℕ) → nat_eq (length arguments) (count + 2) ≡ true → length (drop 2 arguments) ≡ count
rest-length [] count is = let same : 0 ≡ count + 2 = eqb-true 0 (count + 2) is in absurd (omega (arith, same))
rest-length (verb ∷ []) count is = let same : 1 ≡ count + 2 = eqb-true 1 (count + 2) is in absurd (omega (arith, same))
rest-length (verb ∷ (image ∷ rest)) count is =
    let same : length (verb ∷ (image ∷ rest)) ≡ count + 2 = eqb-true (length (verb ∷ (image ∷ rest))) (count + 2) is in
    omega (arith, same)

pub tool-complete : (verb : Verb) (image : List ℕ) (start : TimePacket) (arguments : List (List ℕ))
    (cluster : Option (List ℕ)) (vol : VolWords) → verb ≢ Format → is_time_packet start ≡ true → tool_with verb image
    start arguments cluster ≡ Some vol → IsVol vol
tool-complete verb image start arguments (Some cluster) vol other civil is = absurd (cc is)
tool-complete verb image start arguments None vol other civil is = by (nat_eq (length arguments) (rest_count verb + 2)) refl is
  where
    by : (right : Bool) → nat_eq (length arguments) (rest_count verb + 2) ≡ right
        → (if right then Some (record {
          verb = verb;
          image = image;
          rest = drop 2 arguments;
          sectors = 0;
          cluster = 1;
          start = start;
        }) else None) ≡ Some vol → IsVol vol
    by false right is = absurd (cc is)
    by true right is =
        subst IsVol (some-same _ vol is) (record {
          time = civil;
          words = rest-length arguments (rest_count verb) right;
          disk = λ format. absurd (other format);
        })

-- another verb than `format`
pub other-verb : (verb : Verb) (image : List ℕ) (start : TimePacket) (words : Given) → verb ≢ Format
    → verb_with verb image start words ≡ tool_with verb image start words.arguments (value_of words (codes "cluster"))
other-verb Format image start words other = absurd (other refl)
other-verb Put image start words other = refl
other-verb Get image start words other = refl
other-verb Mkdir image start words other = refl
other-verb Delete image start words other = refl
other-verb Dir image start words other = refl
other-verb Repair image start words other = refl

verb-complete : (verb : Verb) (image : List ℕ) (start : TimePacket) (words : Given) (vol : VolWords) → is_time_packet start ≡ true → verb_with verb image start words ≡ Some vol → IsVol vol
verb-complete Format image start words vol civil is =
    format-complete image start (sectors_in words.arguments) (cluster_of words) vol civil (sectors-are words.arguments) (cluster-is words) is
verb-complete Put image start words vol civil is = tool-complete Put image start words.arguments (value_of words (codes "cluster")) vol (λ e. cc e) civil is
verb-complete Get image start words vol civil is = tool-complete Get image start words.arguments (value_of words (codes "cluster")) vol (λ e. cc e) civil is
verb-complete Mkdir image start words vol civil is = tool-complete Mkdir image start words.arguments (value_of words (codes "cluster")) vol (λ e. cc e) civil is
verb-complete Delete image start words vol civil is = tool-complete Delete image start words.arguments (value_of words (codes "cluster")) vol (λ e. cc e) civil is
verb-complete Dir image start words vol civil is = tool-complete Dir image start words.arguments (value_of words (codes "cluster")) vol (λ e. cc e) civil is
verb-complete Repair image start words vol civil is = tool-complete Repair image start words.arguments (value_of words (codes "cluster")) vol (λ e. cc e) civil is

-- what words of `vol` spell has what they have
pub vol-complete : ((words : Given) (start : TimePacket) → time_of words ≡ Some start → is_time_packet start ≡ true)
    → (given : Option Given) (vol : VolWords) → option_and_then vol_of given ≡ Some vol → IsVol vol
vol-complete civil None vol is = absurd (cc is)
vol-complete civil (Some words) vol is =
    by (option_and_then verb_of (slice_get words.arguments 0)) (slice_get words.arguments 1) (time_of words) (civil words) is
  where
    by : (verb : Option Verb) (image : Option (List ℕ)) (start : Option TimePacket)
        → ((t : TimePacket) → start ≡ Some t → is_time_packet t ≡ true) → vol_with verb image start words ≡ Some vol
        → IsVol vol
    by None image start civil is = absurd (cc is)
    by (Some verb) None start civil is = absurd (cc is)
    by (Some verb) (Some image) None civil is = absurd (cc is)
    by (Some verb) (Some image) (Some start) civil is = verb-complete verb image start words vol (civil start refl) is

-- ---- the words behind IMAGE are copied

pub rest-more : (words : List (List ℕ)) (place : ℕ) (word : List ℕ) → 2 ≤ place → slice_get words place ≡ Some word → drop 2 (take (suc place) words) ≡ drop 2 (take place words) ++ word ∷ []
rest-more [] place word later is = absurd (cc is)
rest-more (verb ∷ words) zero word later is = absurd (omega (arith, later))
rest-more (verb ∷ []) (suc place) word later is = absurd (cc is)
rest-more (verb ∷ (image ∷ words)) (suc zero) word later is = absurd (omega (arith, later))
rest-more (verb ∷ (image ∷ words)) (suc (suc place)) word later is = more words place is
  where
    more : (words : List (List ℕ)) (place : ℕ) → slice_get words place ≡ Some word → take (suc place) words ≡ take place words ++ word ∷ []
    more [] place is = absurd (cc is)
    more (first ∷ words) zero is = let same : first ≡ word = cc is in rw same refl
    more (first ∷ words) (suc place) is = ap (λ rest. first ∷ rest) (more words place is)

past : (words : List (List ℕ)) (place : ℕ) → slice_get words place ≡ None → length words ≤ place
past [] place is = omega arith
past (first ∷ words) zero is = absurd (cc is)
past (first ∷ words) (suc place) is = let rest : length words ≤ place = past words place is in omega (arith, rest)

-- where there is none at a place, all are before it
pub rest-all : (words : List (List ℕ)) (place count : ℕ) → slice_get words place ≡ None → place ≤ count → drop 2 (take place words) ≡ drop 2 (take count words)
rest-all words place count is before =
    let all : length words ≤ place = past words place is in
    let more : length words ≤ count = omega (arith, all, before) in
    ap (λ (words : List (List ℕ)). drop 2 words) (take_all place words all ∙ sym (take_all count words more))

pub rest-few : (words : List (List ℕ)) (place : ℕ) → place ≤ 4 → length (drop 2 (take place words)) < 4294967296
rest-few words place few = simp (length-drop, length-take) (omega (arith, few))

-- ---- verbs

differs : (word name : List ℕ) → word ≢ name → bytes_eq word name ≡ false
differs word name other = by (bytes_eq word name) refl
  where
    by : (same : Bool) → bytes_eq word name ≡ same → bytes_eq word name ≡ false
    by false same = same
    by true same = absurd (other ((bytes_eq-Decides word name).0 same))

-- a word that is none of them
pub no-verb : (word : List ℕ) → word ≢ codes "format" → word ≢ codes "put" → word ≢ codes "get" → word ≢ codes "mkdir"
    → word ≢ codes "delete" → word ≢ codes "dir" → word ≢ codes "repair" → verb_of word ≡ None
no-verb word format put get mkdir delete dir repair =
    rw (
      differs word (codes "format") format,
      differs word (codes "put") put,
      differs word (codes "get") get,
      differs
          word (codes "mkdir") mkdir,
      differs word (codes "delete") delete,
      differs word (codes "dir") dir,
      differs word
          (codes "repair") repair,
    ) refl
