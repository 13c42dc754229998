-- What a handler's way finds over a local store, as the rules say it: from the handler's clause and the laws of the store.
use Rattle.std.proofs.Common.{◌≡◌, ◌⊎◌, inl, inr, ℕ, List, true, false, Option, None, Some, Result, Ok, Err, refl, sym, ap, subst, ◌∙◌}
use Rattle.std.specs.Prelude.{not}
use Rattle.http.specs.declared.request.Parts.{Parts}
use Rattle.dav_io.specs.declared.failure.NoMemory.{NoMemory}
use Rattle.dav_core.specs.declared.dav_error.DavError.TheVariants.{NoMemory as OutOfMemory}
use Rattle.dav_core.specs.declared.method.DavMethod.{DavMethod}
use Rattle.dav_core.specs.declared.method.DavMethod.TheVariants.{Copy, Delete, MkAddressbook, MkCalendar, MkCol, Move, Put}
use Rattle.dav_core.specs.DavPath.{WebPath}
use Rattle.dav_core.specs.Disk.{DiskState}
use Rattle.dav_model.specs.declared.outcome.Outcome.{Outcome}
use Rattle.dav_model.specs.declared.target.Target.{Target}
use Rattle.dav_model.specs.declared.target.Target.TheVariants.{At, Methods, Refused, Writes}
use Rattle.dav_model.specs.Allowing.{allowing}
use Rattle.dav_model.specs.Calls.{AsksToFind, calls_to_open, calls_to_seek}
use Rattle.dav_model.specs.Conditions.{Fields}
use Rattle.dav_model.specs.Due.{Query, query}
use Rattle.dav_model.specs.Gates.{Bulk, bulk_of, gates}
use Rattle.dav_model.specs.Head.{Reply}
use Rattle.dav_model.specs.Bodies.{read_size_of}
use Rattle.dav_model.specs.Rules.{Knowledge, Rules}
use Rattle.dav_model.proofs.JoiningLemmas.{gate_none, leaves_same, makes_kept}
use Rattle.dav_walks.proofs.calls.KeptOpen.{open_same}
use Rattle.dav_walks.specs.Follows.{Reached}
use Rattle.dav_store.specs.Leads.{LeadsOn}
use Rattle.dav_methods.specs.Changing.{Changes}
use Rattle.dav_methods.specs.Lines.{Given as GivenBy}
use Rattle.dav_local.specs.declared.entry.LocalFsDirEntry.{LocalFsDirEntry}
use Rattle.dav_local.specs.declared.file.LocalFsFile.{LocalFsFile}
use Rattle.dav_local.specs.declared.gathering.LocalFsReadDir.{LocalFsReadDir}
use Rattle.dav_get.specs.Calls.{fields_given, status_given}
use Rattle.dav_get.specs.Lives.{OpensOnly}
use Rattle.dav_get.specs.Table.{Given}
use Rattle.dav_config.specs.Handling.{Served}
use Rattle.dav_config.specs.Writing.{Brought, ByTable, Order, order, whole}
use Rattle.dav_config.specs.Finding.{FindsFor, FindsWritten, GivesOr, IsAlone, IsFoundFor, IsFoundOf, IsGated, SeesBehind, Serves, Sought}
use Rattle.dav_config.proofs.Gated.{gated_whole}
use Rattle.dav_handler.specs.By.{By, Over}
use Rattle.dav_handler.specs.Found.{Answers, Finds, Found, GivesFound, HoldsOnly, Said, Starves}
use Rattle.dav_handler.specs.Held.{Body}
use Rattle.dav_handler.specs.Laws.{Laws}
use Rattle.dav_handler.proofs.Answering.{gate_answers, given_answers, refused_answers, some_to_open, stays_same}
use Rattle.dav_handler.proofs.Changing.{did_change, write_done, write_refused}

-- ---- what is kept of what was found

kept_none : (s t : DiskState) (body given : Option Body) → body ≡ None → GivesFound s body given t → (t ≡ s) × (given ≡ None)
kept_none s t None given e gives = gives
kept_none s t (Some b) given e gives = cc

kept_alone : (reply : Reply) (s t : DiskState) (found kept : Found) → IsAlone reply found → kept.outcome ≡ found.outcome → GivesFound s found.body kept.body t → IsAlone reply kept
kept_alone reply s t found kept is same gives = record {
  status = ap (λ (o : Outcome). o.status) same ∙ is.status;
  fields = ap (λ (o : Outcome). o.fields) same ∙ is.fields;
  body = (kept_none s t found.body kept.body is.body gives).1;
}

had : {X : Type 0} (given : Given LocalFsFile) → (given ≡ Err OutOfMemory → ⊥) → (given ≡ Err OutOfMemory) ⊎ X → X
had given was (inr x) = x
had given was (inl e) = absurd (was e)

-- a body in memory is as it was behind the gates
seen_whole : (target : Target) (bytes : List ℕ) (bulk : Bulk) (new : Brought) → SeesBehind target (whole bytes) bulk new → new ≡ whole bytes
seen_whole (Refused status close) bytes bulk new sees = sees
seen_whole Methods bytes bulk new sees = sees
seen_whole (Writes method path) bytes bulk new sees = sees
seen_whole (At method path) bytes bulk new sees = sees.1

-- What OPTIONS is told.
methods_answers : (o : Over) (said : Said) (result : Result Found NoMemory) → ((f : Found) → result ≡ Ok f → IsAlone (allowing o.by.rules.settings.allow false) f)
    → Finds o said Methods result o
methods_answers o said (Err x) is = record { stays = stays_same o; keeps = open_same o.disk; makes = λ e. leaves_same o.disk; asks = refl }
methods_answers o said (Ok found) is =
    let alone = is found refl in
    record {
      stays = stays_same o;
      holds = subst (λ b. HoldsOnly (read_size_of o.by.rules.settings.read_buf_size) o.disk b o.disk) (sym alone.body) (open_same o.disk);
      makes = leaves_same o.disk;
      right = rw (alone.status, alone.fields, alone.body) refl;
      asks = refl;
    }

module _ {S C : Type 0} (served : Served S C LocalFsFile LocalFsReadDir LocalFsDirEntry) (by_of : S → By) (c : C) (s : S) where
  abbrev over : S → Over
  over x = record { by = by_of x; disk = served.view.state x }

  abbrev rules : Rules
  rules = (by_of s).rules

  abbrev knows : Knowledge
  knows = (by_of s).knows

  abbrev asked : Fields → DavMethod → WebPath → Query
  asked fields method path = query rules.settings fields method path

  -- a body in memory, and its method's table
  changes_of : (method : DavMethod) (prefix : List ℕ) (path : WebPath) (fields : Fields) (bytes : List ℕ) (r : GivenBy) (t : S) (n : Brought)
      → ByTable served.view served.lists served.writes c method (order prefix method path fields) (whole bytes) s r t n
      → Changes served.view served.lists served.writes c method prefix path fields bytes s r t
  changes_of Put prefix path fields bytes r t n x = x.0
  changes_of MkCol prefix path fields bytes r t n x = x.0
  changes_of MkCalendar prefix path fields bytes r t n x = x.0
  changes_of MkAddressbook prefix path fields bytes r t n x = x.0
  changes_of Delete prefix path fields bytes r t n x = x.0
  changes_of Copy prefix path fields bytes r t n x = x.0
  changes_of Move prefix path fields bytes r t n x = x.0
  changes_of other prefix path fields bytes r t n x = absurd x

  module _ (laws : Laws served by_of c s) where
    asks_so : (fields : Fields) (method : DavMethod) (path : WebPath) (given : Given LocalFsFile) (m : S) → (given ≡ Err OutOfMemory → ⊥) → GivesOr served (asked fields method path) c s given m
        → AsksToFind rules knows (asked fields method path) (status_given given) (fields_given fields given) (served.view.state s) (served.view.state m)
    asks_so fields method path given m was gives =
        record {
          meant = λ meant untouched. had given was (gives.asks 1 (some_to_open true) (λ known. laws.meant fields method path _ meant untouched));
          unsought = λ meant. had given was (gives.bounded 2 (λ known. laws.unsought fields method path meant));
          near = λ meant nothing w held told near. had given was (gives.asks (calls_to_open held) (some_to_open held) (λ known. laws.near fields method path _ w held meant nothing told near));
          sought = λ meant w most told both. had given was (gives.bounded (calls_to_seek most) (λ known. laws.sought fields method path most w meant told both));
        }

    module _ (said : Said) (method : DavMethod) (path : WebPath) where
      -- A GET or HEAD.
      at_given : (given : Given LocalFsFile) (found kept : Found) (m : S) (t : DiskState) → GivesOr served (asked said.fields method path) c s given m
          → IsFoundFor said.fields given (Ok found) → kept.outcome ≡ found.outcome → GivesFound (served.view.state m) found.body kept.body t
          → Answers (over s) said (At method path) kept (record { by = by_of m; disk = t })
      at_given (Ok given) found kept m t gives (outcome, body) same kept_of =
          given_answers served.view served.lists c (by_of s) (by_of m) s m gives.leads (laws.reads_stay m) laws.seen method path said (laws.tells m) given t kept
          (λ reply right. laws.right said.fields method path m (Ok given) reply gives.life (had (Ok given) (λ e. cc) gives.heard) right)
          (asks_so said.fields method path (Ok given) m (λ e. cc) gives)
          (laws.held m given.1 gives.life.0) (subst (λ h. OpensOnly h (served.view.state s) given.1.file (served.view.state m)) laws.handle gives.life.1) gives.most (same ∙ outcome) (subst (λ b. GivesFound (served.view.state m) b kept.body t) body kept_of)
      at_given (Err e) found kept m t gives (memory, alone) same kept_of =
          let here : t ≡ served.view.state m = (kept_none (served.view.state m) t found.body kept.body alone.body kept_of).0 in
          subst (λ x. Answers (over s) said (At method path) kept (record { by = by_of m; disk = x })) (sym here)
          (refused_answers served.view served.lists c (by_of s) (by_of m) s m gives.leads (laws.reads_stay m) laws.seen method path said e (Ok kept) gives.life
          (λ reply was right. laws.right said.fields method path m (Err e) reply gives.life (had (Err e) (λ x. was (cc)) gives.heard) right)
          (λ was. asks_so said.fields method path (Err e) m (λ x. was (cc)) gives)
          (record { memory = memory; refused = kept_alone _ (served.view.state m) t found kept alone same kept_of }))

      at_starved : (given : Given LocalFsFile) (x : NoMemory) (m : S) → GivesOr served (asked said.fields method path) c s given m → IsFoundFor {F = LocalFsFile} said.fields given (Err x)
          → Starves (over s) said (At method path) (over m)
      at_starved (Ok given) x m gives none = absurd none
      at_starved (Err e) x m gives none =
          refused_answers served.view served.lists c (by_of s) (by_of m) s m gives.leads (laws.reads_stay m) laws.seen method path said e (Err x) gives.life
          (λ reply was right. laws.right said.fields method path m (Err e) reply gives.life (had (Err e) (λ x. was (cc)) gives.heard) right)
          (λ was. asks_so said.fields method path (Err e) m (λ x. was (cc)) gives)
          tt

      -- A method that writes.
      module _ (m : S) (n : Brought) (b : Brought) (is : b ≡ whole said.body) where
        abbrev own : Order
        own = order rules.settings.prefix method path said.fields

        changed : (given : GivenBy) → ByTable served.view served.lists served.writes c method own b s given m n
            → Changes served.view served.lists served.writes c method rules.settings.prefix path said.fields said.body s given m
        changed given table = changes_of method rules.settings.prefix path said.fields said.body given m n (subst (λ x. ByTable served.view served.lists served.writes c method own x s given m n) is table)

        written : (given : GivenBy) (found kept : Found) (t : DiskState) → (w : FindsWritten served own c b s (Ok found) m n) → IsFoundOf said.fields given (Ok found) → w.given ≡ given
            → kept.outcome ≡ found.outcome → GivesFound (served.view.state m) found.body kept.body t → Answers (over s) said (Writes method path) kept (record { by = by_of m; disk = t })
        written (Ok outcome) found kept t w (out, body) e same kept_of =
            let none = kept_none (served.view.state m) t found.body kept.body body kept_of in
            let table = changed (Ok outcome) (subst (λ r. ByTable served.view served.lists served.writes c method own b s r m n) e w.table) in
            subst (λ x. Answers (over s) said (Writes method path) kept (record { by = by_of m; disk = x })) (sym none.0)
            (write_done (by_of s) (by_of m) method path said (served.view.state s) (served.view.state m)
            (laws.writes_stay m (laws.leads method rules.settings.prefix path said.fields said.body (Ok outcome) m table)) outcome kept
            (did_change served.view served.lists served.writes c laws.usual rules.settings.prefix path said s (Ok outcome) m rules knows refl laws.follows method table w.keeps)
            (same ∙ out) none.1)
        written (Err e) found kept t w (memory, alone) eq same kept_of =
            let none = kept_none (served.view.state m) t found.body kept.body alone.body kept_of in
            let table = changed (Err e) (subst (λ r. ByTable served.view served.lists served.writes c method own b s r m n) eq w.table) in
            subst (λ x. Answers (over s) said (Writes method path) kept (record { by = by_of m; disk = x })) (sym none.0)
            (write_refused (by_of s) (by_of m) method path said (served.view.state s) (served.view.state m)
            (laws.writes_stay m (laws.leads method rules.settings.prefix path said.fields said.body (Err e) m table)) e (Ok kept)
            (did_change served.view served.lists served.writes c laws.usual rules.settings.prefix path said s (Err e) m rules knows refl laws.follows method table w.keeps)
            (record { memory = memory; refused = kept_alone _ (served.view.state m) t found kept alone same kept_of }))

        write_starved : (given : GivenBy) (x : NoMemory) → (w : FindsWritten served own c b s (Err x) m n) → IsFoundOf {F = LocalFsFile} said.fields given (Err x) → w.given ≡ given
            → Starves (over s) said (Writes method path) (over m)
        write_starved (Ok outcome) x w none e = absurd none
        write_starved (Err e) x w none eq =
            let table = changed (Err e) (subst (λ r. ByTable served.view served.lists served.writes c method own b s r m n) eq w.table) in
            write_refused (by_of s) (by_of m) method path said (served.view.state s) (served.view.state m)
            (laws.writes_stay m (laws.leads method rules.settings.prefix path said.fields said.body (Err e) m table)) e (Err x)
            (did_change served.view served.lists served.writes c laws.usual rules.settings.prefix path said s (Err e) m rules knows refl laws.follows method table w.keeps)
            tt

    abbrev sought_by : Parts → Sought C
    sought_by head = record { settings = rules.settings; head = head; credentials = c; now = None }

    abbrev said_by : Parts → List ℕ → Said
    said_by head bytes = record { fields = head.headers; body = bytes }

    -- what was found, by what is asked for
    found_for : (head : Parts) (bytes : List ℕ) (target : Target) (b : Brought) → b ≡ whole bytes → (found kept : Found) (m : S) (t : DiskState) (n : Brought)
        → FindsFor served target (sought_by head) b s (Ok found) m n → kept.outcome ≡ found.outcome → GivesFound (served.view.state m) found.body kept.body t
        → Finds (over s) (said_by head bytes) target (Ok kept) (record { by = by_of m; disk = t })
    found_for head bytes (Refused status close) b is found kept m t n finds same kept_of =
        let alone = finds.found found refl in
        let none = kept_none (served.view.state m) t found.body kept.body alone.body kept_of in
        let here : t ≡ served.view.state s = none.0 ∙ ap served.view.state finds.store in
        subst (λ x. Finds (over s) (said_by head bytes) (Refused status close) (Ok kept) (record { by = by_of x; disk = t })) (sym finds.store)
        (subst (λ x. Finds (over s) (said_by head bytes) (Refused status close) (Ok kept) (record { by = by_of s; disk = x })) (sym here)
        (gate_answers (over s) (said_by head bytes) status close (Ok kept) (kept_alone _ (served.view.state m) t found kept alone same kept_of)))
    found_for head bytes Methods b is found kept m t n finds same kept_of =
        let alone = subst (λ v. IsAlone (allowing rules.settings.allow v) found) laws.void (finds.found found refl) in
        let none = kept_none (served.view.state m) t found.body kept.body alone.body kept_of in
        let here : t ≡ served.view.state s = none.0 ∙ ap served.view.state finds.store in
        subst (λ x. Finds (over s) (said_by head bytes) Methods (Ok kept) (record { by = by_of x; disk = t })) (sym finds.store)
        (subst (λ x. Finds (over s) (said_by head bytes) Methods (Ok kept) (record { by = by_of s; disk = x })) (sym here)
        (methods_answers (over s) (said_by head bytes) (Ok kept) (λ f e. subst (IsAlone (allowing rules.settings.allow false)) (let same_kept : kept ≡ f = cc in same_kept)
        (kept_alone _ (served.view.state m) t found kept alone same kept_of))))
    found_for head bytes (At method path) b is found kept m t n (at, e, set) same kept_of =
        at_given (said_by head bytes) method path at.given found kept m t at.gives at.found same kept_of
    found_for head bytes (Writes method path) b is found kept m t n (w, set) same kept_of =
        written (said_by head bytes) method path m n b is w.given found kept t w w.found refl same kept_of

    -- memory was refused behind the gates
    starved_for : (head : Parts) (bytes : List ℕ) (target : Target) (b : Brought) → b ≡ whole bytes → (x : NoMemory) (m : S) (n : Brought)
        → FindsFor served target (sought_by head) b s (Err x) m n → Finds (over s) (said_by head bytes) target (Err x) (over m)
    starved_for head bytes (Refused status close) b is x m n finds =
        subst (λ y. Finds (over s) (said_by head bytes) (Refused status close) (Err x) (over y)) (sym finds.store)
        (gate_answers (over s) (said_by head bytes) status close (Err x) tt)
    starved_for head bytes Methods b is x m n finds =
        subst (λ y. Finds (over s) (said_by head bytes) Methods (Err x) (over y)) (sym finds.store)
        (methods_answers (over s) (said_by head bytes) (Err x) (λ f e. cc))
    starved_for head bytes (At method path) b is x m n (at, e, set) = at_starved (said_by head bytes) method path at.given x m at.gives at.found
    starved_for head bytes (Writes method path) b is x m n (w, set) = write_starved (said_by head bytes) method path m n b is w.given x w w.found refl

    -- memory was refused at the gates
    starved_before : (said : Said) (target : Target) (e : NoMemory) → Finds (over s) said target (Err e) (over s)
    starved_before said target e = record {
      stays = stays_same (over s);
      keeps = open_same (served.view.state s);
      makes = λ x. makes_kept target rules _ _ _ x (served.view.state s) (served.view.state s) (leaves_same (served.view.state s));
      asks = gate_none target (served.view.state s).asked;
    }

    gate_is : (head : Parts) (bytes : List ℕ) (target : Target) (between : Brought) → IsGated (sought_by head) (not (served.void s)) (whole bytes) target between
        → target ≡ gates rules.settings true head (bulk_of bytes)
    gate_is head bytes target between is =
        gated_whole (sought_by head) (not (served.void s)) bytes between target is ∙ ap (λ v. gates rules.settings (not v) head (bulk_of bytes)) laws.void

    -- A request was answered by the handler's way, and of its body is kept what has something left.
    pub served_found : (head : Parts) (bytes : List ℕ) (found kept : Found) (m : S) (t : DiskState) (n : Brought) → Serves served (sought_by head) (whole bytes) s (Ok found) m n
        → kept.outcome ≡ found.outcome → GivesFound (served.view.state m) found.body kept.body t
        → Finds (over s) (said_by head bytes) (gates rules.settings true head (bulk_of bytes)) (Ok kept) (record { by = by_of m; disk = t })
    served_found head bytes found kept m t n by same kept_of =
        subst (λ x. Finds (over s) (said_by head bytes) x (Ok kept) (record { by = by_of m; disk = t })) (gate_is head bytes by.target by.between by.gated)
        (found_for head bytes by.target by.between (seen_whole _ bytes by.gated.bulk by.between by.gated.sees) found kept m t n by.finds same kept_of)

    -- Memory was refused on that way.
    pub served_starved : (head : Parts) (bytes : List ℕ) (e : NoMemory) (m : S) (n : Brought) → Serves served (sought_by head) (whole bytes) s (Err e) m n
        → Finds (over s) (said_by head bytes) (gates rules.settings true head (bulk_of bytes)) (Err e) (over m)
    served_starved head bytes e m n (inl same) =
        subst (λ x. Finds (over s) (said_by head bytes) (gates rules.settings true head (bulk_of bytes)) (Err e) (over x)) (sym same) (starved_before (said_by head bytes) _ e)
    served_starved head bytes e m n (inr by) =
        subst (λ x. Finds (over s) (said_by head bytes) x (Err e) (over m)) (gate_is head bytes by.target by.between by.gated)
        (starved_for head bytes by.target by.between (seen_whole _ bytes by.gated.bulk by.between by.gated.sees) e m n by.finds)

    -- ---- by which calls

    module _ (X : S → Type 0) (none : X s) (reads : (t : S) → LeadsOn served.view served.lists c s t → X t)
        (writes : (t : S) → Reached served.view served.lists served.writes c s t → X t) where
      led_for : (head : Parts) (bytes : List ℕ) (target : Target) (b : Brought) → b ≡ whole bytes → (result : Result Found NoMemory) (m : S) (n : Brought)
          → FindsFor served target (sought_by head) b s result m n → X m
      led_for head bytes (Refused status close) b is result m n finds = subst X (sym finds.store) none
      led_for head bytes Methods b is result m n finds = subst X (sym finds.store) none
      led_for head bytes (At method path) b is result m n (at, e, set) = reads m at.gives.leads
      led_for head bytes (Writes method path) b is result m n (w, set) =
          writes m (laws.leads method rules.settings.prefix path head.headers bytes w.given m (changed (said_by head bytes) method path m n b is w.given w.table))

      pub served_leads : (head : Parts) (bytes : List ℕ) (result : Result Found NoMemory) (m : S) (n : Brought) → Serves served (sought_by head) (whole bytes) s result m n → X m
      served_leads head bytes (Ok found) m n by =
          led_for head bytes by.target by.between (seen_whole _ bytes by.gated.bulk by.between by.gated.sees) (Ok found) m n by.finds
      served_leads head bytes (Err e) m n (inl same) = subst X (sym same) none
      served_leads head bytes (Err e) m n (inr by) =
          led_for head bytes by.target by.between (seen_whole _ bytes by.gated.bulk by.between by.gated.sees) (Err e) m n by.finds

-- ---- the same, by what was served first

module _ {S C : Type 0} (served : Served S C LocalFsFile LocalFsReadDir LocalFsDirEntry) (by_of : S → By) (c : C) (s : S) (head : Parts) (bytes : List ℕ) where
  abbrev own_sought : Sought C
  own_sought = record { settings = (by_of s).rules.settings; head = head; credentials = c; now = None }

  abbrev own_over : S → Over
  own_over x = record { by = by_of x; disk = served.view.state x }

  abbrev own_said : Said
  own_said = record { fields = head.headers; body = bytes }

  pub found_by : (found kept : Found) (m : S) (t : DiskState) (n : Brought) → Serves served own_sought (whole bytes) s (Ok found) m n → Laws served by_of c s
      → kept.outcome ≡ found.outcome → GivesFound (served.view.state m) found.body kept.body t
      → Finds (own_over s) own_said (gates (by_of s).rules.settings true head (bulk_of bytes)) (Ok kept) (record { by = by_of m; disk = t })
  found_by found kept m t n serves laws same kept_of = served_found served by_of c s laws head bytes found kept m t n serves same kept_of

  pub starved_by : (e : NoMemory) (m : S) (n : Brought) → Serves served own_sought (whole bytes) s (Err e) m n → Laws served by_of c s
      → Finds (own_over s) own_said (gates (by_of s).rules.settings true head (bulk_of bytes)) (Err e) (own_over m)
  starved_by e m n serves laws = served_starved served by_of c s laws head bytes e m n serves

  pub led_by : (result : Result Found NoMemory) (m : S) (n : Brought) → Serves served own_sought (whole bytes) s result m n → Laws served by_of c s
      → (X : S → Type 0) → X s → ((t : S) → LeadsOn served.view served.lists c s t → X t) → ((t : S) → Reached served.view served.lists served.writes c s t → X t) → X m
  led_by result m n serves laws X none reads writes = served_leads served by_of c s laws X none reads writes head bytes result m n serves
