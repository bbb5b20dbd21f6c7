-- What is told of a file in bytes.
use Rattle.std.proofs.Common.{◌≡◌, ℕ, ◌∙◌, List, [], ◌∷◌, ◌++◌, length, get_or, refl, ap, sym, arith}
use Rattle.std.proofs.lemmas.List.{append_assoc}
use Rattle.proc_model.specs.UserBytes.{word_bytes}
use Rattle.rbf_model.specs.File.{DiskFile}
use Rattle.rbf_access.specs.Reading.{IsFdOf}
use Rattle.rbf_sector.specs.declared.fd.Fd.{Fd}
use Rattle.file_rules.specs.Status.{descriptor_front, long_bytes}

-- lists of three and of five numbers
pub three : (xs : List ℕ) → length xs ≡ 3 → get_or xs 0 0 ∷ get_or xs 1 0 ∷ get_or xs 2 0 ∷ [] ≡ xs
three [] h = absurd (omega arith)
three (a ∷ []) h = absurd (omega arith)
three (a ∷ b ∷ []) h = absurd (omega arith)
three (a ∷ b ∷ c ∷ []) h = refl
three (a ∷ b ∷ c ∷ d ∷ xs) h = absurd (omega arith)

pub five : (xs rest : List ℕ) → length xs ≡ 5 → get_or xs 0 0 ∷ get_or xs 1 0 ∷ get_or xs 2 0 ∷ get_or xs 3 0 ∷ get_or xs 4 0 ∷ rest ≡ xs ++ rest
five [] rest h = absurd (omega arith)
five (a ∷ []) rest h = absurd (omega arith)
five (a ∷ b ∷ []) rest h = absurd (omega arith)
five (a ∷ b ∷ c ∷ []) rest h = absurd (omega arith)
five (a ∷ b ∷ c ∷ d ∷ []) rest h = absurd (omega arith)
five (a ∷ b ∷ c ∷ d ∷ e ∷ []) rest h = refl
five (a ∷ b ∷ c ∷ d ∷ e ∷ f ∷ xs) rest h = absurd (omega arith)

three-then : (xs rest : List ℕ) → length xs ≡ 3 → get_or xs 0 0 ∷ get_or xs 1 0 ∷ get_or xs 2 0 ∷ rest ≡ xs ++ rest
three-then [] rest h = absurd (omega arith)
three-then (a ∷ []) rest h = absurd (omega arith)
three-then (a ∷ b ∷ []) rest h = absurd (omega arith)
three-then (a ∷ b ∷ c ∷ []) rest h = refl
three-then (a ∷ b ∷ c ∷ d ∷ xs) rest h = absurd (omega arith)

four-then : (xs rest : List ℕ) → length xs ≡ 4 → get_or xs 0 0 ∷ get_or xs 1 0 ∷ get_or xs 2 0 ∷ get_or xs 3 0 ∷ rest ≡ xs ++ rest
four-then [] rest h = absurd (omega arith)
four-then (a ∷ []) rest h = absurd (omega arith)
four-then (a ∷ b ∷ []) rest h = absurd (omega arith)
four-then (a ∷ b ∷ c ∷ []) rest h = absurd (omega arith)
four-then (a ∷ b ∷ c ∷ d ∷ []) rest h = refl
four-then (a ∷ b ∷ c ∷ d ∷ e ∷ xs) rest h = absurd (omega arith)

-- ---- the front of a descriptor

abbrev front : Fd → List ℕ
front fd = (fd.attr ∷ word_bytes fd.owner) ++ (fd.modified ++ (fd.links ∷ long_bytes fd.size) ++ fd.created)

front-of : (fd : Fd) (file : DiskFile) → IsFdOf file fd → front fd ≡ descriptor_front file
front-of fd file is =
    let one : front fd ≡ front (record fd { attr = file.attributes }) = ap (λ a. front (record fd { attr = a })) is.attributes_are in
    let two : front (record fd { attr = file.attributes }) ≡ front
    (record fd { attr = file.attributes; owner = file.owner }) = ap
    (λ o. front (record fd { attr = file.attributes; owner = o })) is.owner_is in
    one ∙ two
    ∙ ap (λ n. (file.attributes ∷ word_bytes file.owner) ++ (fd.modified ++ (fd.links ∷ long_bytes n) ++ fd.created)) is.size_is
    ∙ ap (λ l. (file.attributes ∷ word_bytes file.owner) ++ (fd.modified ++ (l ∷ long_bytes (length file.contents)) ++ fd.created)) is.links_are
    ∙ ap (λ m. (file.attributes ∷ word_bytes file.owner) ++ (m ++ (file.links ∷ long_bytes (length file.contents)) ++ fd.created)) is.modified_is
    ∙ ap (λ c. (file.attributes ∷ word_bytes file.owner) ++ (file.modified ++ (file.links ∷ long_bytes (length file.contents)) ++ c)) is.created_is

-- its parts, one behind the other
pub front-told : (fd : Fd) (bytes long : List ℕ) → bytes ≡ (fd.attr ∷ word_bytes fd.owner) ++
    (fd.modified ++ (fd.links ∷ long) ++ fd.created) → long ≡ long_bytes fd.size → (file : DiskFile) → IsFdOf file fd
    → bytes ≡ descriptor_front file
front-told fd bytes long joined is file shown =
    joined ∙ ap (λ l. (fd.attr ∷ word_bytes fd.owner) ++ (fd.modified ++ (fd.links ∷ l) ++ fd.created)) is ∙ front-of fd file shown

-- ---- bytes one behind the other

pub parts-joined : (front modified size created : List ℕ) (links : ℕ) → length front ≡ 3 → length modified ≡ 5 → length size ≡ 4 → length created ≡ 3
    → get_or front 0 0 ∷ get_or front 1 0 ∷ get_or front 2 0 ∷ get_or modified 0 0 ∷ get_or modified 1 0 ∷ get_or
    modified 2 0 ∷ get_or modified 3 0 ∷ get_or modified 4 0 ∷ links ∷ get_or size 0 0 ∷ get_or size 1 0 ∷ get_or
    size 2 0 ∷ get_or size 3 0 ∷ get_or created 0 0 ∷ get_or created 1 0 ∷ get_or created 2 0 ∷ []
    ≡ front ++ (modified ++ (links ∷ size) ++ created)
parts-joined front modified size created links three_are five_are four_are end_are =
    let c0 = get_or created 0 0 in
    let c1 = get_or created 1 0 in
    let c2 = get_or created 2 0 in
    three-then front _ three_are
    ∙ ap (λ xs. front ++ xs)
    (five modified (links ∷ get_or size 0 0 ∷ get_or size 1 0 ∷ get_or size 2 0 ∷ get_or size 3 0 ∷ c0 ∷ c1 ∷ c2 ∷ []) five_are
    ∙ ap (λ xs. modified ++ (links ∷ xs)) (four-then size (c0 ∷ c1 ∷ c2 ∷ []) four_are ∙ ap (λ xs. size ++ xs) (three created end_are))
    ∙ sym (append_assoc modified (links ∷ size) created))
