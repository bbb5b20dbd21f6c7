-- Texts that are written in pieces.
use Rattle.std.proofs.Common.{◌≡◌, ℕ, ◌<◌, suc, Option, List, ◌++◌, length, take, drop, get_or, Bor, sym, ap, ◌∙◌, append_assoc, drop-cons, take-append-drop}
use Rattle.std.proofs.Math.Seq.{take-length}
use Rattle.std.proofs.lemmas.Grind.{flat_map-append}
use Rattle.std.specs.List.{flat_map}
use Rattle.os9_outer.specs.Stream.{stream_with, GainsPrefix}
use Rattle.os9_outer.specs.declared.host.Host.{Ghosts}
use Rattle.os9_words.specs.Streams.{ChangesErrOnly}
use Rattle.os9_words.proofs.Prefixes.{GainsPrefix-front, GainsPrefix-then}

-- the text of the pieces
abbrev pub text_of : List (Bor (List ℕ)) → List ℕ
text_of pieces = flat_map (λ piece. piece.now) pieces

-- the error stream gained these pieces, its faults stand still, and nothing else changed
pub record WroteErr {Host : Type 0} (members : Ghosts Host) (pieces : List (Bor (List ℕ))) (before now : Host) : Type 0 where
  pub gained : members.bytes_err now ≡ stream_with (members.bytes_err before) (text_of pieces)
  pub count_kept : members.err_stream_faults now ≡ members.err_stream_faults before
  pub others : ChangesErrOnly members before now

-- the output stream gained these pieces, and nothing else changed
pub record WroteOut {Host : Type 0} (members : Ghosts Host) (pieces : List (Bor (List ℕ))) (before now : Host) : Type 0 where
  pub gained : members.bytes_out now ≡ stream_with (members.bytes_out before) (text_of pieces)
  pub count_kept : members.host_faults now ≡ members.host_faults before
  pub name_kept : members.failed_name now ≡ members.failed_name before
  pub read_kept : members.failed_in_read now ≡ members.failed_in_read before
  pub files_kept : members.file_map now ≡ members.file_map before
  pub err_kept : members.bytes_err now ≡ members.bytes_err before
  pub err_count_kept : members.err_stream_faults now ≡ members.err_stream_faults before
  pub reads_kept : members.files_read now ≡ members.files_read before
  pub writes_kept : members.files_written now ≡ members.files_written before

-- the text is that of the pieces before one, of the piece, and of those behind it
text_of-at : (pieces : List (Bor (List ℕ))) (i : ℕ) (other : Bor (List ℕ)) → i < length pieces
    → text_of pieces ≡ (text_of (take i pieces) ++ (get_or pieces i other).now) ++ text_of (drop (suc i) pieces)
text_of-at pieces i other below =
    let before = take i pieces in
    let behind = drop (suc i) pieces in
    ap text_of (sym (take-append-drop i pieces))
    ∙ flat_map-append (λ piece. piece.now) before (drop i pieces)
    ∙ ap (λ rest. text_of before ++ text_of rest) (drop-cons pieces i other below)
    ∙ sym (append_assoc (text_of before) (get_or pieces i other).now (text_of behind))

-- after the pieces before one, a prefix of the piece is a prefix of the text
pub GainsPrefix-piece : (stream : Option (List ℕ)) (pieces : List (Bor (List ℕ))) (i : ℕ) (other : Bor (List ℕ))
    (between now : Option (List ℕ)) → i < length pieces → between ≡ stream_with stream (text_of (take i pieces))
    → GainsPrefix between (get_or pieces i other).now now → GainsPrefix stream (text_of pieces) now
GainsPrefix-piece stream pieces i other between now below first gained =
    let before = text_of (take i pieces) in
    let piece = (get_or pieces i other).now in
    let behind = text_of (drop (suc i) pieces) in
    rw (text_of-at pieces i other below)
    (GainsPrefix-front stream (before ++ piece) behind now (GainsPrefix-then stream before piece between now first gained))

-- the whole text is a prefix of it
pub GainsPrefix-whole : (stream : Option (List ℕ)) (bytes : List ℕ) (now : Option (List ℕ)) → now ≡ stream_with stream bytes → GainsPrefix stream bytes now
GainsPrefix-whole stream bytes now gained =
    (length bytes, gained ∙ ap (stream_with stream) (sym (take-length bytes)))
