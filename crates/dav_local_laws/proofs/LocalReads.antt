-- The looks, openings for reading and listings of a local store are those of the rules: so the reply to a GET or HEAD over it is right
-- for something that the store may show, in every run.
use Rattle.std.proofs.Common.{◌≡◌, ◌≤◌, ◌⊎◌, ℕ, true, List, length, Option, None, Some, Result, Ok, Err, refl, sym, subst, inl, inr, arith}
use Rattle.dav_io.specs.Counts.{Rose}
use Rattle.dav_io.specs.declared.clock.Moment.{Moment}
use Rattle.dav_core.specs.declared.error.FsError.{FsError}
use Rattle.dav_core.specs.declared.member.Member.{Member}
use Rattle.dav_core.specs.DavPath.{WebPath}
use Rattle.dav_core.specs.Members.{members}
use Rattle.dav_core.specs.World.{World}
use Rattle.dav_store.specs.declared.entry.ReadDirMeta.TheVariants.{Data}
use Rattle.dav_store.specs.Files.{Spoiled}
use Rattle.dav_store.specs.Members.{Answered, ReadsThere, Stops, WasListed}
use Rattle.dav_store.specs.Shows.{OpensThere}
use Rattle.dav_store.specs.View.{Listings, View}
use Rattle.dav_store.proofs.Reading.{reads_there, rose_on}
use Rattle.dav_walks.specs.Pouring.{Writes}
use Rattle.dav_memory.specs.Memory.{MemoryState}
use Rattle.dav_core.specs.Writing.{reading}
use Rattle.dav_local.specs.declared.entry.LocalFsDirEntry.{LocalFsDirEntry}
use Rattle.dav_local.specs.declared.file.LocalFsFile.{LocalFsFile}
use Rattle.dav_local.specs.declared.gathering.LocalFsReadDir.{LocalFsReadDir}
use Rattle.dav_local.specs.declared.ways.Ways.{Ways}
use Rattle.dav_local.specs.Places.{Place}
use Rattle.dav_local.specs.Shown.{EndsBy, opened_by}
use Rattle.dav_local.specs.Standing.{HasNoLinks}
use Rattle.dav_local.proofs.ByRules.{lists_by_rules, looks_by_rules, opens_by_rules}
use Rattle.dav_local.proofs.Walked.{walk_ends, walk_told}
use Rattle.dav_local_laws.specs.LocalStore.{IsLocalStore, place}
use Rattle.dav_local_laws.proofs.LocalListings.{lists_local}
use Rattle.dav_local_laws.proofs.LocalRefusals.{refuses_few}
use Rattle.dav_local_laws.specs.ReadsByRules.{OpensLoosely, ReadsByRules}
use Rattle.dav_local_laws.proofs.RuledReads.{ruled_reads}
use Rattle.dav_model.specs.Due.{Query}
use Rattle.dav_model.specs.Head.{Reply}
use Rattle.dav_model.specs.Play.{Reads}
use Rattle.dav_get.specs.Heard.{Heard}
use Rattle.dav_get.specs.Lives.{OpenOnlyHeld}
use Rattle.dav_get.specs.Right.{IsOfNumber, or_zero, reply_at}
use Rattle.dav_get.specs.Table.{Given}
use Rattle.dav_local.specs.Shown.{knowledge_of}
use Rattle.dav_local.specs.Ways.{rules_with}

-- why a walk stopped
stopped : (from now : ℕ) (all : List Member) (answers : List Answered) (last : Result (Option LocalFsDirEntry) FsError) → Stops last → EndsBy from all answers last now → (length answers ≡ length all) ⊎ Rose from now
stopped from now all answers (Ok None) stops long = inl long
stopped from now all answers (Ok (Some entry)) stops ends = absurd stops
stopped from now all answers (Err e) stops (inl none) = absurd (stops none)
stopped from now all answers (Err e) stops (inr (is, rose)) = inr rose

later : (from last end : ℕ) (all : List Member) (answers : List Answered) → (length answers ≡ length all) ⊎ Rose from last → last ≤ end → (length answers ≡ length all) ⊎ Rose from end
later from last end all answers (inl long) le = inl long
later from last end all answers (inr rose) le = inr (rose_on from last end rose le)

module _ {S C : Type 0} (view : View S C LocalFsFile) (lists : Listings S C LocalFsReadDir LocalFsDirEntry) (writes : Writes LocalFsFile) (ways : S → Ways) (memory : S → MemoryState) (moment : S → Moment)
    (local : IsLocalStore view lists writes ways memory moment) where
  abbrev at : S → Place
  at s = place view lists writes ways memory moment s

  loosely : (s t : S) (c : C) (path : WebPath) (o : Result LocalFsFile FsError) (w : World) → (view.state s).told ≡ Some w → view.opens s c path reading o t
      → OpensLoosely view.file.seen (ways s) w path (view.state s) o (view.state t)
  loosely s t c path o w told opens =
      let rules = opens_by_rules (at s) (at t) w path o told (local.worlds s w told) (local.opens s t c path reading o opens).0 in
      record {
        end = rules.end;
        loosely = rules.loosely;
        shows = λ clear. record {
          stands = opened_by (ways s) w rules.end path;
          alike = refl;
          there = subst (λ seen. OpensThere seen (opened_by (ways s) w rules.end path) o (view.state t) ⊎ Spoiled (view.state s) o (view.state t)) (sym local.seen) (rules.shows clear);
        };
      }

  page_read : (m t : S) (c : C) (path : WebPath) (read : List Member) (v : World) → (view.state m).told ≡ Some v → (was : WasListed view lists m c path read t) → HasNoLinks v was.listing.reading.path
      → ReadsThere (Ok (members v was.listing.reading.path)) (view.state m).faults read (view.state t).faults
  page_read m t c path read v told was links =
      let begins_so = (local.begins m was.begin c path Data (Ok was.listing) was.begins).0 in
      let listings = lists_local view lists writes ways memory moment local in
      let of = walk_told view lists listings true (at m) (at was.begin) v path was.begin was.walks.place was.listing was.walks.left was.walks.answers
      told (local.worlds m v told) begins_so refl links was.walks.walk in
      let ends = walk_ends view lists listings true (at m) (at was.begin) v path was.begin was.walks.place was.walks.behind was.listing was.walks.left was.walks.rest was.walks.answers was.walks.last
      told begins_so refl links was.walks.walk was.walks.ends in
      let closed = (local.ends was.after t was.over was.ended).0.counts in
      let all = members v was.listing.reading.path in
      let to_end : (view.state was.walks.behind).faults ≤ (view.state t).faults = omega (arith, was.walks.out, closed) in
      let why = later (view.state m).faults (view.state was.walks.behind).faults (view.state t).faults all was.walks.answers
      (stopped (view.state m).faults (view.state was.walks.behind).faults all was.walks.answers was.walks.last was.walks.stops ends) to_end in
      let reads = reads_there all (view.state m).faults (view.state was.walks.place).faults (view.state t).faults was.walks.answers of (omega (arith, was.walks.on, to_end)) why in
      subst (λ ms. ReadsThere (Ok all) (view.state m).faults ms (view.state t).faults) (sym was.walks.told) reads

  pub local_by_rules : ReadsByRules view lists ways memory
  local_by_rules = record {
    worlds = local.worlds;
    few = refuses_few view lists writes ways memory moment local;
    looks = λ s t c path r w told h. looks_by_rules (at s) (at t) w path r told (local.looks s t c path r h).0;
    ways_stay = λ s t c path r h. (local.looks s t c path r h).1;
    opens = loosely;
    begins = λ s t c path r w told h. lists_by_rules (at s) (at t) w path Data r told (local.begins s t c path Data r h).0;
    pages = page_read;
  }

  module _ (q : Query) (c : C) (s : S) (result : Given LocalFsFile) (t : S) (life : OpenOnlyHeld view s result t) (reply : Reply)
      (same : (number : Option ℕ) → IsOfNumber view number t result → reply_at q.fields (or_zero number) result ≡ reply) (h : Heard view lists q c s result t) where
    pub local_reads : Reads (rules_with q.settings (ways s)) (knowledge_of (memory s)) (view.state s) (view.state t) q reply
    local_reads = ruled_reads view lists ways memory local_by_rules q c s result t life reply same h
