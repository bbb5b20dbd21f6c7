-- What paths are opened on: at the start, and after paths and pipes go.
use Rattle.std.proofs.Common.{◌≡◌, ◌≢◌, ◌<◌, ◌⊎◌, [], ◌∷◌, length-drop, ℕ, Bool, true, false, Option, Some, None, IsSome, option_map, List, length, get_or, set, replicate, inl, inr, sym, ap, refl, ◌∙◌, subst, arith, if◌then◌else◌, ◌+◌, is_none, drop, nat_lt, cond}
use Rattle.std.specs.List.{position_or_len}
use Rattle.std.specs.Option.{option_map_or}
use Rattle.std.proofs.lemmas.Grind.{get_or_after_one}
use Rattle.std.proofs.lemmas.Bool.{cases_eq, cases_lt, ltb-true}
use Rattle.std.proofs.lemmas.List.{length-set, length-replicate, get_or-set_same, get_or-set_other, get_or_past, get_or-replicate}
use Rattle.io_model.specs.declared.path.Desc.{Desc}
use Rattle.io_model.specs.Terminal.{Terminal, new_terminal}
use Rattle.io_model.specs.declared.pending.PendingCall.{PendingCall}
use Rattle.io_model.specs.declared.path.Target.{Target}
use Rattle.io_model.specs.declared.path.Target.TheVariants.{File, Folder, Term, Pipe}
use Rattle.io_model.specs.Path.{PathTable, ArePaths, desc_of, with_desc, with_slot, path_at, is_held, slot_of, paths_after_close, paths_after_begin, paths_after_dup, with_path, free_number, free_path, closed_desc}
use Rattle.io_model.specs.Pipe.{IsPipe, pipe_of, with_pipe, without_pipe, free_pipe, pipes_after_begin}
use Rattle.io_model.specs.Close.{without_path, without_target, after_close}
use Rattle.io_model.specs.Io.{Io, first_paths, new_desc, with_paths, with_pipes}
use Rattle.io_state.specs.Sound.{target_at, AreTargets, AreWaits, IsIo, IsThere, opened_on}

abbrev nothing : {X : Type 0} → Option X
nothing = None

-- nothing is not something
none-some : {X : Type 0} (x : X) → nothing {X = X} ≡ Some x → ⊥
none-some x e = cc

-- a path goes
gone-target : (paths : PathTable) (s t : ℕ) (x : Target) → target_at (with_desc paths s None) t ≡ Some x → (t ≢ s) × (target_at paths t ≡ Some x)
gone-target paths s t x e = elim (cases_eq t s) [
  | inl same ↦ absurd (none-some x (sym (nothing-there same) ∙ e))
  | inr differ ↦ (differ, sym (ap (option_map (λ (desc : Desc). desc.target)) (get_or-set_other paths.descs s t None None differ)) ∙ e)
]
  where
    nothing-there : t ≡ s → target_at (with_desc paths s None) t ≡ None
    nothing-there same = elim (cases_lt s (length paths.descs)) [
      | inl within ↦ ap (option_map (λ (desc : Desc). desc.target)) (ap (λ (k : ℕ). get_or (set paths.descs s None) k None) same ∙ get_or-set_same paths.descs s None None within)
      | inr past ↦ ap (option_map (λ (desc : Desc). desc.target)) (get_or_past (set paths.descs s None) t None (omega (arith, same, length-set paths.descs s (nothing {X = Desc}))))
    ]

-- the paths that are there after some went
pub are-fewer : (io : Io) (paths : PathTable) → ((t : ℕ) (x : Target) → target_at paths t ≡ Some x → target_at io.paths t ≡ Some x) → AreTargets io → AreTargets (with_paths io paths)
are-fewer io paths fewer are = record {
  pipes = λ s n e. are.pipes s n (fewer s (Pipe n) e);
  one_path = λ s t n e f. are.one_path s t n (fewer s (Pipe n) e) (fewer t (Pipe n) f);
  terminals = λ s n e. are.terminals s n (fewer s (Term n) e);
}

-- a pipe that is there, where another one went
still-pipe : (pipes : List (Option (List ℕ))) (m n : ℕ) → m ≢ n → IsPipe pipes m → IsPipe (without_pipe pipes n) m
still-pipe pipes m n differ is = subst (λ (o : Option (List ℕ)). IsSome o) (sym (get_or-set_other pipes n m None None differ)) is

-- a path goes with its pipe
pub are-without_pipe : (io : Io) (s n : ℕ) → target_at io.paths s ≡ Some (Pipe n) → AreTargets io → AreTargets (with_pipes (with_paths io (with_desc io.paths s None)) (without_pipe io.pipes n))
are-without_pipe io s n gone are = record {
  pipes = λ t m e.
      let kept = gone-target io.paths s t (Pipe m) e in
      still-pipe io.pipes m n (λ same. kept.0 (are.one_path t s n (kept.1 ∙ ap (λ (k : ℕ). Some (Pipe k)) same) gone)) (are.pipes t m kept.1);
  one_path = λ t u m e f. are.one_path t u m (gone-target io.paths s t (Pipe m) e).1 (gone-target io.paths s u (Pipe m) f).1;
  terminals = λ t m e. are.terminals t m (gone-target io.paths s t (Term m) e).1;
}

fewer-by : (paths : PathTable) (s t : ℕ) (x : Target) (held : Bool) → target_at (if held then paths else with_desc paths s None) t ≡ Some x → target_at paths t ≡ Some x
fewer-by paths s t x true e = e
fewer-by paths s t x false e = (gone-target paths s t x e).1

-- after a number was closed
pub are-closed : (io : Io) (p n : ℕ) → AreTargets io → AreTargets (with_paths io (paths_after_close io.paths p n))
are-closed io p n are =
    are-fewer io (paths_after_close io.paths p n) (λ t x e. fewer-by (with_slot io.paths p n None) (path_at io.paths p n) t x (is_held (with_slot io.paths p n None) (path_at io.paths p n)) e) are

gone-by : (paths slotless : PathTable) (s : ℕ) (desc : Desc) (held : Bool) → (if held then None else desc_of paths s)
    ≡ Some desc → ((if held then slotless else with_desc slotless s None) ≡ with_desc slotless s None) ×
    (target_at paths s ≡ Some desc.target)
gone-by paths slotless s desc true e = absurd (none-some desc e)
gone-by paths slotless s desc false e = (refl, ap (option_map (λ (d : Desc). d.target)) e)

-- the path that went
pub gone-path : (paths : PathTable) (p n : ℕ) (desc : Desc) → closed_desc paths p n ≡ Some desc
    → (paths_after_close paths p n ≡ with_desc (with_slot paths p n None) (path_at paths p n) None) ×
    (target_at paths (path_at paths p n) ≡ Some desc.target)
gone-path paths p n desc e =
    gone-by paths (with_slot paths p n None) (path_at paths p n) desc (is_held (with_slot paths p n None) (path_at paths p n)) e

-- after a number was closed with which a pipe goes
pub are-closed_pipe : (io : Io) (p n pipe : ℕ) (desc : Desc) → closed_desc io.paths p n ≡ Some desc
    → desc.target ≡ Pipe pipe → AreTargets io
    → AreTargets (with_pipes (with_paths io (paths_after_close io.paths p n)) (without_pipe io.pipes pipe))
are-closed_pipe io p n pipe desc e on are =
    let gone = gone-path io.paths p n desc e in
    subst (λ (paths : PathTable). AreTargets (with_pipes (with_paths io paths) (without_pipe io.pipes pipe)))
    (sym (gone.0)) (are-without_pipe (with_paths io (with_slot io.paths p n None)) (path_at io.paths p n) pipe
    (gone.1 ∙ ap (λ (x : Target). Some x) on) (record {
      pipes = are.pipes;
      one_path = are.one_path;
      terminals =
          are.terminals;
    }))

-- a path that is on no pipe goes alone
pub closed-plain : (io : Io) (p n : ℕ) (desc : Desc) → closed_desc io.paths p n ≡ Some desc
    → ((pipe : ℕ) → desc.target ≡ Pipe pipe → ⊥) → with_paths io (paths_after_close io.paths p n) ≡ after_close io p n
closed-plain io p n desc e plain =
    sym (ap (λ (gone : Option Desc). without_path (with_paths io (paths_after_close io.paths p n)) gone) e ∙ by desc.target plain)
  where
    by : (x : Target) → ((pipe : ℕ) → x ≡ Pipe pipe → ⊥) → without_target (with_paths io (paths_after_close io.paths p n)) x ≡ with_paths io (paths_after_close io.paths p n)
    by (File drive sector) plain = refl
    by (Folder drive sector) plain = refl
    by (Term terminal) plain = refl
    by (Pipe pipe) plain = absurd (plain pipe refl)

-- the pipe that goes was there
pub closed-pipe : (io : Io) (p n pipe : ℕ) (desc : Desc) → closed_desc io.paths p n ≡ Some desc → desc.target ≡ Pipe pipe → AreTargets io → IsPipe io.pipes pipe
closed-pipe io p n pipe desc e on are =
    are.pipes (path_at io.paths p n) pipe ((gone-path io.paths p n desc e).1 ∙ ap (λ (x : Target). Some x) on)

-- the paths at the start have one descriptor, of a path on TERM
first-target : (t : ℕ) (x : Target) → target_at first_paths t ≡ Some x → x ≡ Term 0
first-target t x e = elim (cases_eq t 1) [
  | inl same ↦ (let there : Some (Term 0) ≡ Some x = sym (ap (λ (k : ℕ). target_at first_paths k) same) ∙ e in cc)
  | inr differ ↦ absurd (none-some x (sym (ap (option_map (λ (desc : Desc). desc.target)) (get_or-set_other (replicate 65 None) 1 t (Some (new_desc (Term 0) 3)) None differ ∙ free t)) ∙ e))
]
  where
    free : (t : ℕ) → get_or (replicate 65 (nothing {X = Desc})) t None ≡ None
    free t = elim (cases_lt t 65) [
      | inl within ↦ get_or-replicate 65 t None None within
      | inr past ↦ get_or_past (replicate 65 (nothing {X = Desc})) t None (omega (arith, length-replicate 65 (nothing {X = Desc})))
    ]

-- the state at the start
pub is-first : (paths : PathTable) (terminals : List Terminal) (pipes : List (Option (List ℕ)))
    (calls : List (Option PendingCall)) → paths ≡ first_paths → ArePaths paths → terminals ≡ replicate 4 new_terminal
    → calls ≡ replicate 33 None → IsIo (record { paths = paths; terminals = terminals; pipes = pipes; calls = calls })
is-first paths terminals pipes calls first are new none = record {
  paths = are;
  terminals = ap (length {A = Terminal}) new ∙ length-replicate 4 new_terminal;
  calls = ap (length {A = Option PendingCall}) none ∙ length-replicate 33 (nothing {X = PendingCall});
  targets = record {
    pipes = λ s n e. absurd (let x : Pipe n ≡ Term 0 = at-first s (Pipe n) e in cc);
    one_path = λ s t n e f. absurd (let x : Pipe n ≡ Term 0 = at-first s (Pipe n) e in cc);
    terminals = λ s n e. (let x : Term n ≡ Term 0 = at-first s (Term n) e in let y : n ≡ 0 = cc in omega (arith, y));
  };
  waits = record {
    calls = λ p call kept. absurd (none-some call (sym (ap (λ (calls : List (Option PendingCall)). get_or calls p None) none ∙ free-call p) ∙ kept));
    reads = λ n reading is. absurd (none-some reading (sym (ap (λ (terminals : List Terminal). (get_or terminals n new_terminal).reading) new ∙ ap (λ (t : Terminal). t.reading) (quiet n)) ∙ is));
  };
}
  where
    at-first : (t : ℕ) (x : Target) → target_at paths t ≡ Some x → x ≡ Term 0
    at-first t x e = first-target t x (sym (ap (λ (paths : PathTable). target_at paths t) first) ∙ e)

    free-call : (p : ℕ) → get_or (replicate 33 (nothing {X = PendingCall})) p None ≡ None
    free-call p = elim (cases_lt p 33) [
      | inl within ↦ get_or-replicate 33 p None None within
      | inr past ↦ get_or_past (replicate 33 (nothing {X = PendingCall})) p None (omega (arith, length-replicate 33 (nothing {X = PendingCall})))
    ]

    quiet : (n : ℕ) → get_or (replicate 4 new_terminal) n new_terminal ≡ new_terminal
    quiet n = elim (cases_lt n 4) [
      | inl within ↦ get_or-replicate 4 n new_terminal new_terminal within
      | inr past ↦ get_or_past (replicate 4 new_terminal) n new_terminal (omega (arith, length-replicate 4 new_terminal))
    ]

-- a path that is opened is one that was there, or the new one
opened-target : (paths : PathTable) (s t : ℕ) (desc : Desc) (x : Target) → target_at (with_desc paths s (Some desc)) t ≡ Some x → ((t ≡ s) × (desc.target ≡ x)) ⊎ (target_at paths t ≡ Some x)
opened-target paths s t desc x e = elim (cases_eq t s) [
  | inl same ↦ elim (cases_lt s (length paths.descs)) [
    | inl within ↦ inl (
      same,
      (let there : Some desc.target ≡ Some x = sym (ap (option_map (λ (d : Desc). d.target))
          (ap (λ (k : ℕ). get_or (set paths.descs s (Some desc)) k None) same ∙ get_or-set_same paths.descs s
          (Some desc) None within)) ∙ e in cc),
    )
    | inr past ↦ absurd (none-some x
        (sym (ap (option_map (λ (d : Desc). d.target)) (get_or_past (set paths.descs s (Some desc)) t None
        (omega (arith, same, length-set paths.descs s (Some desc))))) ∙ e))
  ]
  | inr differ ↦ inr (sym (ap (option_map (λ (d : Desc). d.target)) (get_or-set_other paths.descs s t (Some desc) None differ)) ∙ e)
]

-- a path may be opened on this: it is there, and no path was opened on this pipe
pub record MayOpen (io : Io) (desc : Desc) : Type 0 where
  pub pipe : (n : ℕ) → desc.target ≡ Pipe n → IsPipe io.pipes n
  pub fresh : (s n : ℕ) → desc.target ≡ Pipe n → target_at io.paths s ≡ Some (Pipe n) → ⊥
  pub terminal : (n : ℕ) → desc.target ≡ Term n → n < 4

are-opened : (io : Io) (s : ℕ) (desc : Desc) → MayOpen io desc → AreTargets io → AreTargets (with_paths io (with_desc io.paths s (Some desc)))
are-opened io s desc may are = record {
  pipes = λ t n e. elim (opened-target io.paths s t desc (Pipe n) e) [
    | inl new ↦ may.pipe n new.1
    | inr old ↦ are.pipes t n old
  ];
  one_path = λ t u n e f. elim (opened-target io.paths s t desc (Pipe n) e) [
    | inl new ↦ elim (opened-target io.paths s u desc (Pipe n) f) [
      | inl too ↦ new.0 ∙ sym too.0
      | inr old ↦ absurd (may.fresh u n new.1 old)
    ]
    | inr old ↦ elim (opened-target io.paths s u desc (Pipe n) f) [
      | inl new ↦ absurd (may.fresh t n new.1 old)
      | inr too ↦ are.one_path t u n old too
    ]
  ];
  terminals = λ t n e. elim (opened-target io.paths s t desc (Term n) e) [
    | inl new ↦ may.terminal n new.1
    | inr old ↦ are.terminals t n old
  ];
}

begun-by : (io : Io) (p : ℕ) (desc : Desc) (number path : Option ℕ) → MayOpen io desc → AreTargets io
    → AreTargets (with_paths io (option_map_or (λ n. option_map_or (with_path io.paths p desc n) path io.paths) number
    io.paths))
begun-by io p desc None path may are = are
begun-by io p desc (Some n) None may are = are
begun-by io p desc (Some n) (Some s) may are =
    let opened = are-opened io s desc may are in
    record { pipes = opened.pipes; one_path = opened.one_path; terminals = opened.terminals }

-- after a path was opened
pub are-begun : (io : Io) (p : ℕ) (desc : Desc) → MayOpen io desc → AreTargets io → AreTargets (with_paths io (paths_after_begin io.paths p desc))
are-begun io p desc may are = begun-by io p desc (free_number io.paths p) (free_path io.paths) may are

-- a path may be opened on a terminal
pub may-open_terminal : (io : Io) (desc : Desc) (terminal : ℕ) → desc.target ≡ Term terminal → terminal < 4 → MayOpen io desc
may-open_terminal io desc terminal on within = record {
  pipe = λ n e. absurd (let x : Term terminal ≡ Pipe n = sym on ∙ e in cc);
  fresh = λ s n e. absurd (let x : Term terminal ≡ Pipe n = sym on ∙ e in cc);
  terminal = λ n e. (let x : Term terminal ≡ Term n = sym on ∙ e in let y : terminal ≡ n = cc in omega (arith, y, within));
}

-- after a number was doubled
pub are-doubled : (io : Io) (p n : ℕ) → AreTargets io → AreTargets (with_paths io (paths_after_dup io.paths p n))
are-doubled io p n are = by (free_number io.paths p)
  where
    by : (number : Option ℕ) → AreTargets (with_paths io (option_map_or (λ free. with_slot io.paths p free (slot_of io.paths p n)) number io.paths))
    by None = record { pipes = are.pipes; one_path = are.one_path; terminals = are.terminals }
    by (Some free) = record { pipes = are.pipes; one_path = are.one_path; terminals = are.terminals }

-- the state with other paths
pub is-io_with_paths : (io : Io) (paths new : PathTable) → paths ≡ new → ArePaths paths → AreTargets (with_paths io new) → AreWaits (with_paths io new) → IsIo io → IsIo (with_paths io paths)
is-io_with_paths io paths new same shape targets waits is = record {
  paths = shape;
  terminals = is.terminals;
  calls = is.calls;
  targets = subst (λ (p : PathTable). AreTargets (with_paths io p)) (sym same) targets;
  waits = subst (λ (p : PathTable). AreWaits (with_paths io p)) (sym same) waits;
}

-- what a path is opened on is there
pub is-there : (io : Io) (s : ℕ) (x : Target) → target_at io.paths s ≡ Some x → AreTargets io → IsThere io x
is-there io s (File drive sector) e are = tt
is-there io s (Folder drive sector) e are = tt
is-there io s (Term terminal) e are = are.terminals s terminal e
is-there io s (Pipe pipe) e are = are.pipes s pipe e

-- a path that is there is one of the table
pub path-low : (paths : PathTable) (s : ℕ) (desc : Desc) → desc_of paths s ≡ Some desc → ArePaths paths → s < 65
path-low paths s desc is are =
    elim (cases_lt s (length paths.descs)) [
      | inl within ↦ omega (arith, within, are.places)
      | inr past ↦ absurd (none-some desc (sym (get_or_past paths.descs s None past) ∙ is))
    ]

-- the first place that has nothing
first-free : (pipes : List (Option (List ℕ))) → get_or pipes (position_or_len is_none pipes) None ≡ None
first-free [] = refl
first-free (None ∷ pipes) = refl
first-free (Some bytes ∷ pipes) =
    sym (get_or_after_one (Some bytes ∷ pipes) (position_or_len is_none pipes) None) ∙ first-free pipes

free-by : (pipes : List (Option (List ℕ))) (j k : ℕ) (found : Bool) → get_or (drop 1 pipes) j None ≡ None → option_map (λ (k : ℕ). k + 1) (cond found (Some j) None) ≡ Some k → pipe_of pipes k ≡ None
free-by pipes j k true free e =
    let at : j + 1 ≡ k = (let some : Some (j + 1) ≡ Some k = e in cc) in
    ap (λ (i : ℕ). get_or pipes i None) (omega (arith, at)) ∙ (sym (get_or_after_one pipes j None) ∙ free)
free-by pipes j k false free e = absurd (none-some k e)

-- a free number is no pipe's
pub free-pipe : (pipes : List (Option (List ℕ))) (k : ℕ) → free_pipe pipes ≡ Some k → pipe_of pipes k ≡ None
free-pipe pipes k e =
    free-by pipes (position_or_len is_none (drop 1 pipes)) k (nat_lt (position_or_len is_none (drop 1 pipes)) (length (drop 1 pipes))) (first-free (drop 1 pipes)) e

within-by : (pipes : List (Option (List ℕ))) (j k : ℕ) (found : Bool) → nat_lt j (length (drop 1 pipes)) ≡ found → option_map (λ (k : ℕ). k + 1) (cond found (Some j) None) ≡ Some k → k < length pipes
within-by pipes j k true there e =
    let at : j + 1 ≡ k = (let some : Some (j + 1) ≡ Some k = e in cc) in
    omega (arith, at, ltb-true j (length (drop 1 pipes)) there, length-drop 1 pipes)
within-by pipes j k false there e = absurd (none-some k e)

free-within : (pipes : List (Option (List ℕ))) (k : ℕ) → free_pipe pipes ≡ Some k → k < length pipes
free-within pipes k e =
    within-by pipes (position_or_len is_none (drop 1 pipes)) k (nat_lt (position_or_len is_none (drop 1 pipes)) (length (drop 1 pipes))) refl e

-- a free number is not that of a pipe that is there
not-free : (pipes : List (Option (List ℕ))) (k n : ℕ) → pipe_of pipes k ≡ None → n ≡ k → IsPipe pipes n → ⊥
not-free pipes k n free same is =
    let none : IsSome {T = List ℕ} None =
    subst (λ (o : Option (List ℕ)). IsSome o) (ap (λ (i : ℕ). get_or pipes i None) same ∙ free) is
    in cc

-- the pipes with a new one
are-with_pipe : (io : Io) (k : ℕ) → pipe_of io.pipes k ≡ None → AreTargets io → AreTargets (with_pipes io (with_pipe io.pipes k []))
are-with_pipe io k free are = record {
  pipes = λ t n e.
      subst (λ (o : Option (List ℕ)). IsSome o) (sym (get_or-set_other io.pipes k n (Some []) None (λ same. not-free io.pipes k n free same (are.pipes t n e)))) (are.pipes t n e);
  one_path = are.one_path;
  terminals = are.terminals;
}

-- a path may be opened on a new pipe
may-open_pipe : (io : Io) (k mode : ℕ) → pipe_of io.pipes k ≡ None → k < length io.pipes → AreTargets io → MayOpen (with_pipes io (with_pipe io.pipes k [])) (new_desc (Pipe k) mode)
may-open_pipe io k mode free within are = record {
  pipe = λ n e.
      let same : n ≡ k = (let x : Pipe k ≡ Pipe n = e in cc) in
      subst (λ (o : Option (List ℕ)). IsSome o) (sym (ap (λ (i : ℕ). get_or (set io.pipes k (Some [])) i None) same ∙ get_or-set_same io.pipes k (Some []) None within)) refl;
  fresh = λ s n e old.
      let same : n ≡ k = (let x : Pipe k ≡ Pipe n = e in cc) in
      not-free io.pipes k n free same (are.pipes s n old);
  terminal = λ n e. absurd (let x : Pipe k ≡ Term n = e in cc);
}

-- after a path was opened on a new pipe
pub are-opened_on : (io : Io) (p mode k : ℕ) → free_pipe io.pipes ≡ Some k → AreTargets io → AreTargets (opened_on io p mode k)
are-opened_on io p mode k e are =
    let free = free-pipe io.pipes k e in
    let begun : with_pipe io.pipes k [] ≡ pipes_after_begin io.pipes = ap (λ (o : Option ℕ). option_map_or (λ number. with_pipe io.pipes number []) o io.pipes) (sym e) in
    subst (λ (pipes : List (Option (List ℕ))). AreTargets (with_paths (with_pipes io pipes)
    (paths_after_begin io.paths p (new_desc (Pipe k) mode)))) begun
    (are-begun (with_pipes io (with_pipe io.pipes k [])) p (new_desc (Pipe k) mode) (may-open_pipe io k mode free
    (free-within io.pipes k e) are) (are-with_pipe io k free are))
