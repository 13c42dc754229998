-- What was counted is what the large input has, and its lines are written.
use Rattle.std.proofs.Common.{◌≡◌, ℕ, ◌+◌, ◌*◌, List, ◌++◌, take, sum, Some, Result, Ok, Err, IfOk, refl, sym, ap, ap₂, subst, ◌∙◌, arith, append-nil}
use Rattle.dav_io.specs.Outside.{Stream}
use Rattle.dav_io.specs.declared.failure.NoMemory.{NoMemory}
use Rattle.dav_io.proofs.ToldLemmas.{both_same}
use Rattle.dav_core.specs.World.{World}
use Rattle.dav_disk.specs.declared.sure_disk.SureDisk.{SureDisk}
use Rattle.dav_disk.specs.Memory.{HasRoom}
use Rattle.dav_disk.specs.Sure.{listings_of, sure_state, sure_world}
use Rattle.dav_model.specs.Play.{Stage}
use Rattle.dav_bench.specs.declared.counting.Counts.{Counts}
use Rattle.dav_bench.specs.Counting.{added, nothing_counted, totals_of}
use Rattle.dav_bench.specs.Asking.{IsReady}
use Rattle.dav_bench.specs.Report.{Benches, FrontWritten, Reports}
use Rattle.dav_bench.specs.Running.{AskedFor, both_rounds}
use Rattle.dav_bench.specs.Totals.{Totals, lengths, lines, totals}
use Rattle.std.proofs.lemmas.Option.{same_Some}

same_totals : (t u : Totals) → t.requests ≡ u.requests → t.ok ≡ u.ok → t.pieces ≡ u.pieces → t.bytes ≡ u.bytes → t.listings ≡ u.listings → t ≡ u
same_totals t u e f g h k =
    ap₂ (λ (x y : ℕ). record { requests = x; ok = y; pieces = t.pieces; bytes = t.bytes; listings = t.listings }) e f
    ∙ (ap₂ (λ (x y : ℕ). record { requests = u.requests; ok = u.ok; pieces = x; bytes = y; listings = t.listings }) g h
    ∙ ap (λ (x : ℕ). record { requests = u.requests; ok = u.ok; pieces = u.pieces; bytes = u.bytes; listings = x }) k)

from_none : (n : ℕ) → 0 + n ≡ n
from_none n = omega arith

totals_are : (m listings : ℕ) (c : Counts) → c ≡ added (16 * m) (2 * sum (lengths m)) nothing_counted → totals_of c listings ≡ totals m listings
totals_are m listings c e =
    ap (λ z. totals_of z listings) e
    ∙ same_totals (totals_of (added (16 * m) (2 * sum (lengths m)) nothing_counted) listings) (totals m listings)
    (from_none (16 * m)) (from_none (16 * m)) (from_none (16 * m)) (from_none (2 * sum (lengths m))) refl

pub benched : (m : ℕ) (c : Counts) (first last : SureDisk) (a b : Stage) (old : Stream) (result : Result ℕ NoMemory) (new : Stream)
    → c ≡ added (16 * m) (2 * sum (lengths m)) nothing_counted → IsReady m a → a.at ≡ sure_state first → listings_of first ≡ 0
    → AskedFor (both_rounds m) a b nothing_counted c → b.at ≡ sure_state last
    → Reports (lines (totals_of c (listings_of last))) old result new → Benches m old result new
benched m c first last a b old result new e ready begins fresh asked ends r =
    let same : totals_of c (listings_of last) ≡ totals m (listings_of last) = totals_are m (listings_of last) c e in
    record {
      listings = listings_of last;
      ran = for_each result (record {
        first = first;
        last = last;
        a = a;
        b = b;
        counts = c;
        ready = ready;
        begins = begins;
        fresh = fresh;
        asked = asked;
        ends = ends;
        are = sym same;
      });
      reports = subst (λ z. Reports (lines z) old result new) same r;
    }
  where
    for_each : (result : Result ℕ NoMemory) {R : Type 0} → R → IfOk result (λ status. R)
    for_each (Ok status) r = r
    for_each (Err e) r = tt

-- nothing was written where memory was refused before
pub benched_none : (m : ℕ) (e : NoMemory) (s : Stream) → Benches m s (Err e) s
benched_none m e s = record {
  listings = 0;
  ran = tt;
  reports = record {
    counts = omega arith;
    status = tt;
    told = both_same s.bytes s.bytes (FrontWritten (lines (totals m 0)) (Err e)) (λ v. (0, sym (append-nil v), λ went. cc)) refl;
  };
}

spared_disk : (d : SureDisk) → (HasRoom (sure_world d) → (sure_state d).faults ≡ 0) → (w : World) → (sure_state d).told ≡ Some w → HasRoom w → (sure_state d).faults ≡ 0
spared_disk d law w told room = law (subst HasRoom (sym (same_Some (sure_world d) w told)) room)

-- the same by a disk that was lent
pub spared_lent : (d lent : SureDisk) → lent ≡ d → (HasRoom (sure_world lent) → (sure_state lent).faults ≡ 0) → (w : World) → (sure_state d).told ≡ Some w → HasRoom w
    → (sure_state d).faults ≡ 0
spared_lent d lent same law = spared_disk d (subst (λ (z : SureDisk). HasRoom (sure_world z) → (sure_state z).faults ≡ 0) same law)
