-- What the reading of bytes says of their spellings.
use Rattle.std.proofs.Common.{◌≡◌, ℕ, suc, ◌<◌, List, [], ◌∷◌, ◌++◌, length, drop, refl, ap, sym, ◌∙◌, arith, append_assoc, append-nil, length-append, get_or}
use Rattle.std.specs.Prelude.{Ok, Err, IfOk}
use Rattle.std.proofs.Math.Seq.{take-append_seam}
use Rattle.std.proofs.lemmas.List.{take-append-drop, length-take-le}
use Rattle.std.proofs.lemmas.List.Elements.{All-from_recursion}
use Rattle.cpu_model.specs.declared.instruction.Instr.{Instr}
use Rattle.cpu_model.specs.declared.instruction.DecodeFault.TheVariants.{NotDocumented, Short}
use Rattle.cpu_model.specs.Reading.{Reading, reading}
use Rattle.cpu_table.specs.Spelling.{IsDocumented, spelling, plain, IsPlainInstr, BeginsWithInstruction, IsBegun, IsSpelled}
use Rattle.cpu_table.proofs.Plain.{front_plain}
use Rattle.cpu_table.proofs.Read.{spelling_read}
use Rattle.cpu_table.proofs.Classes.{AreBytes, is_spelled, is_begun, is_wrong, class}

-- ---- what is found is spelled so

spelled_front : (bytes : List ℕ) (i : Instr) (count : ℕ) (written : Instr) (after : List ℕ) → bytes ≡ spelling written ++ after →
    IsDocumented written → reading bytes ≡ Ok (i, count) → BeginsWithInstruction bytes i count
spelled_front bytes i count written after e d r =
    let read : reading bytes ≡ Ok (plain written, length (spelling written)) = rw e (spelling_read written after d) in
    let both : ◌≡◌ {A = Instr × ℕ} (i, count) (plain written, length (spelling written)) = cc in
    let same : i ≡ plain written = ap (λ found. found.0) both in
    let long : count ≡ length (spelling written) = ap (λ found. found.1) both in
    record {
      enough = rw (e, long) (simp length-append (omega arith));
      spells = record {
        written = written;
        documented = d;
        bytes_are = rw (e, long) (take-append_seam (spelling written) after);
        plainly = same;
      };
    }

not_read : (bytes : List ℕ) → ((after : List ℕ) → reading (bytes ++ after) ≡ Err NotDocumented) → reading bytes ≡ Err NotDocumented
not_read bytes wrong = rw append-nil at (wrong [])

pub found : (bytes : List ℕ) → AreBytes bytes → (i : Instr) (count : ℕ) → reading bytes ≡ Ok (i, count) → BeginsWithInstruction bytes i count
found bytes h i count r =
    elim (class bytes h) [
      | is_spelled written after e d ↦ spelled_front bytes i count written after e d r
      | is_begun written more e d some b short ↦ absurd (cc)
      | is_wrong wrong ↦ absurd (cc (not_read bytes wrong))
    ]

-- ---- whatever is spelled so is found

pub only : (bytes : List ℕ) (i : Instr) (count : ℕ) → BeginsWithInstruction bytes i count → reading bytes ≡ Ok (i, count)
only bytes i count b =
    let written : Instr = b.spells.written in
    let front : bytes ≡ spelling written ++ drop count bytes =
    sym (take-append-drop count bytes) ∙ ap (λ front. front ++ drop count bytes) b.spells.bytes_are in
    let long : count ≡ length (spelling written) = sym (length-take-le count bytes b.enough) ∙ ap length b.spells.bytes_are in
    let read : reading bytes ≡ Ok (plain written, length (spelling written)) =
    ap reading front ∙ spelling_read written (drop count bytes) b.spells.documented in
    rw (b.spells.plainly, long) read

-- ---- what is begun

pub begun : (bytes : List ℕ) → AreBytes bytes → reading bytes ≡ Err Short → IsBegun bytes
begun bytes h r =
    elim (class bytes h) [
      | is_spelled written after e d ↦
          let read : reading bytes ≡ Ok (plain written, length (spelling written)) = rw e (spelling_read written after d) in
          absurd (cc)
      | is_begun written more e d some b short ↦ record {
        more = more;
        bytes_more = All-from_recursion (λ b. b < 256) more b;
        some_more = some;
        i = plain written;
        spells = record { written = written; documented = d; bytes_are = e; plainly = refl };
      }
      | is_wrong wrong ↦ absurd (cc (not_read bytes wrong))
    ]

begun_read : (bytes : List ℕ) (b : IsBegun bytes) →
    reading (bytes ++ b.more) ≡ Ok (plain b.spells.written, length (bytes ++ b.more))
begun_read bytes b =
    let read : reading (spelling b.spells.written) ≡ Ok (plain b.spells.written, length (spelling b.spells.written)) =
    rw append-nil at (spelling_read b.spells.written [] b.spells.documented) in
    rw b.spells.bytes_are read

no_length : (xs : List ℕ) → length xs ≡ 0 → xs ≡ []
no_length [] e = refl
no_length (x ∷ xs) e = absurd (cc)

-- a front that is whole ends where the longer bytes end, so nothing follows it
not_whole : (bytes : List ℕ) (b : IsBegun bytes) (written : Instr) (after : List ℕ) → bytes ≡ spelling written ++ after → IsDocumented written → ⊥
not_whole bytes b written after e d =
    let split : bytes ++ b.more ≡ spelling written ++ (after ++ b.more) = rw e (append_assoc (spelling written) after b.more) in
    let read : reading (bytes ++ b.more) ≡ Ok (plain written, length (spelling written)) = rw split (spelling_read written (after ++ b.more) d) in
    let both : ◌≡◌ {A = Instr × ℕ} (plain b.spells.written, length (bytes ++ b.more)) (plain written, length (spelling written)) = cc (begun_read bytes b) in
    let long : length (bytes ++ b.more) ≡ length (spelling written) = ap (λ found. found.1) both in
    b.some_more (no_length b.more (omega (arith, length-append bytes b.more, length-append (spelling written) after, ap length e)))

pub short : (bytes : List ℕ) → AreBytes bytes → IsBegun bytes → reading bytes ≡ Err Short
short bytes h b =
    elim (class bytes h) [
      | is_spelled written after e d ↦ absurd (not_whole bytes b written after e d)
      | is_begun written more e d some k r ↦ r
      | is_wrong wrong ↦ absurd (cc (wrong b.more, begun_read bytes b))
    ]

-- ---- what is neither

pub neither : (bytes : List ℕ) → AreBytes bytes → ¬ IsBegun bytes → ¬ IsSpelled bytes → reading bytes ≡ Err NotDocumented
neither bytes h not_begun not_spelled =
    elim (class bytes h) [
      | is_spelled written after e d ↦
          absurd (not_spelled (
            plain written,
            length (spelling written),
            found bytes h (plain written) (length (spelling written)) (rw e (spelling_read written after d)),
          ))
      | is_begun written more e d some k r ↦ absurd (not_begun (begun bytes h r))
      | is_wrong wrong ↦ not_read bytes wrong
    ]

pub neither_begun : (bytes : List ℕ) → AreBytes bytes → reading bytes ≡ Err NotDocumented → ¬ IsBegun bytes
neither_begun bytes h r b = let other : reading bytes ≡ Err Short = short bytes h b in cc

pub neither_spelled : (bytes : List ℕ) → reading bytes ≡ Err NotDocumented → ¬ IsSpelled bytes
neither_spelled bytes r s = let other : reading bytes ≡ Ok (s.0, s.1) = only bytes s.0 s.1 s.2 in cc

-- ---- the same, of an answer that is what is read

pub bytes_fit : (bytes : List ℕ) → ((k : ℕ) → get_or bytes k 0 < 256) → AreBytes bytes
bytes_fit [] h = tt
bytes_fit (b ∷ bytes) h = (h 0, bytes_fit bytes (λ k. h (suc k)))

pub ok_found : (bytes : List ℕ) → AreBytes bytes → (result : Reading) → result ≡ reading bytes →
    IfOk result (λ f. BeginsWithInstruction bytes f.0 f.1)
ok_found bytes h (Ok f) e = found bytes h f.0 f.1 (sym e)
ok_found bytes h (Err fault) e = tt

pub ok_plain : (bytes : List ℕ) → AreBytes bytes → (result : Reading) → result ≡ reading bytes → IfOk result (λ f. IsPlainInstr f.0)
ok_plain bytes h (Ok f) e = front_plain bytes h f.0 f.1 (found bytes h f.0 f.1 (sym e))
ok_plain bytes h (Err fault) e = tt
