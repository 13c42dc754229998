-- Asking what stands at a path leaves all as it was.
use Rattle.std.proofs.Common.{ℕ, Bool, true, Option, Result, inl, inr, refl, sym, ap, subst}
use Rattle.dav_io.proofs.ToldLemmas.{both_same}
use Rattle.dav_core.specs.declared.handle.DiskError.{DiskError}
use Rattle.dav_core.specs.declared.handle.Meta.{Meta}
use Rattle.dav_core.specs.Disk.{DiskState, Live, MetasBy}
use Rattle.dav_core.specs.Path.{Names}
use Rattle.dav_core.specs.Unchanged.{Keeps, SameBesidesOpens, SameListing, SameOpen}
use Rattle.dav_core.proofs.UnchangedLemmas.{keeps_same, same_besides}
use Rattle.dav_memory.specs.Memory.{AsksMeta}

pub metas_keep : (follows : Bool) (s : DiskState) (path : Names) (answer : Result Meta DiskError) (t : DiskState) → MetasBy follows s path answer t → Keeps s t
metas_keep follows s path answer t metas = record {
  counts = metas.asks.counts;
  asked = metas.asks.more;
  whole = metas.asks.whole;
  listers = metas.asks.listers;
  listings = λ n k e. both_same s.told t.told (SameListing n) (λ w. refl) metas.world;
  world = both_same s.told t.told SameBesidesOpens same_besides metas.world;
  live = λ h. ap (λ (f : ℕ → Option Live). f h) metas.live;
  opens = λ h l e. both_same s.told t.told (SameOpen h) (λ w. refl) metas.world;
}

-- The same where the disk was asked at most that.
pub asked_keeps : (s t : DiskState) → AsksMeta s t → Keeps s t
asked_keeps s t (inl same) = subst (Keeps s) (sym same) (keeps_same s)
asked_keeps s t (inr (path, answer, metas)) = metas_keep true s path answer t metas
