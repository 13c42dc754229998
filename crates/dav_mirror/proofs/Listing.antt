-- A mirror of a disk that stands still.
use Rattle.std.proofs.Common.{◌≡◌, inl, inr, ◌<◌, ◌^◌, ℕ, [], true, Option, Some, Result, Ok, Err, refl, sym, ap, subst, arith}
use Rattle.dav_io.specs.Counts.{RefusedNothing}
use Rattle.dav_io.specs.Outside.{Stream}
use Rattle.dav_io.specs.declared.failure.NoMemory.{NoMemory}
use Rattle.dav_core.specs.Disk.{DiskState}
use Rattle.dav_core.specs.World.{World}
use Rattle.dav_core.proofs.UnchangedLemmas.{same_besides}
use Rattle.dav_fetch.specs.declared.copied.Copied.{Copied}
use Rattle.dav_fetch.specs.declared.error.MirrorError.{MirrorError}
use Rattle.dav_fetch.specs.declared.error.MirrorError.TheVariants.{Peer as PeerFailed, Refused, Short, Budget, NoMemory as LacksMemory}
use Rattle.dav_fetch.specs.Fetching.{visits_of}
use Rattle.dav_fetch.specs.Mirroring.{IsOverOne, Mirrors as IsFetched, TellsStill}
use Rattle.dav_fetch.proofs.Empty.{empty_copy}
use Rattle.dav_fetch.proofs.Reached.{reached}
use Rattle.dav_fetch.proofs.StillTold.{still_told}
use Rattle.dav_mirror.specs.Mirrors.{EndsBy, Lists, Mirrors, StandsStill, most_requests, peer_at}
use Rattle.dav_mirror.specs.Seen.{seen_in}
use Rattle.dav_mirror.specs.declared.report.Report.{Report}

abbrev no_copy : Copied
no_copy = record { dirs = []; files = [] }

still_first : (s : DiskState) (w : World) → s.told ≡ Some w → w.script ≡ [] → TellsStill w (peer_at s)
still_first s w told script = record {
  now = record { world = w; left = [] };
  told = ap (seen_in (λ tree. true) [] []) told;
  same = same_besides w;
  script = script;
}

-- a length with fewer than twenty digits
long : (n : ℕ) → n < 10 ^ 19 → n < 2 ^ 64
long n few = omega (arith, few)

lists_by : (w : World) (answer : Result Unit MirrorError) (copy : Copied) (before after : ℕ) (old : Stream) (result : Result ℕ NoMemory) (new : Stream) → IsFetched w answer copy
    → EndsBy answer copy before after old result new → Lists w old result new
lists_by w (Ok x) copy before after old result new is ends = inl (copy, is, ends)
lists_by w (Err LacksMemory) copy before after old result new is ends = inr ends
lists_by w (Err PeerFailed) copy before after old result new is ends = absurd is
lists_by w (Err (Refused p status)) copy before after old result new is ends = absurd is
lists_by w (Err (Short p got announced)) copy before after old result new is ends = absurd is
lists_by w (Err (Budget made)) copy before after old result new is ends = absurd is
lists_by w (Err other) copy before after old result new is ends = absurd is

pub listed : (before after : DiskState) (old new : Stream) (result : Result ℕ NoMemory) (report : Option Report) → Mirrors before after old result new report → (w : World) → StandsStill before after w → Lists w old result new
listed before after old new result report m w stands =
    let nothing : RefusedNothing before.faults m.last.faults = subst (RefusedNothing before.faults) (sym m.faults) stands.nothing in
    let over : IsOverOne w (peer_at before) no_copy (visits_of m.fetched) m.last = record {
      nothing = nothing;
      world = stands.world;
      tells = still_told (peer_at before) m.last no_copy m.copy most_requests m.answer m.fetched w stands.world stands.linkless nothing (still_first before w stands.told stands.script);
      copy = empty_copy [] [] refl refl;
      small = λ k of. absurd of;
      faithful = λ k of. absurd of;
      short = λ path shown row at. long _ (stands.limits.lengths path row (record { there = at.there; shown = shown }) at.file);
    } in
    lists_by w m.answer m.copy before.faults after.faults old result new
    (reached (peer_at before) m.last no_copy m.copy most_requests m.answer m.fetched w over stands.linkless stands.limits stands.few) m.ends
