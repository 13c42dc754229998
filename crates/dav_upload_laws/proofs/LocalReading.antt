-- A local store reads a directory without a change of how it finds paths.
use Rattle.std.proofs.Common.{ap, ◌∙◌}
use Rattle.dav_io.specs.declared.clock.Moment.{Moment}
use Rattle.dav_store.specs.View.{Listings, View}
use Rattle.dav_walks.specs.Follows.{here}
use Rattle.dav_walks.specs.Pouring.{Writes}
use Rattle.dav_walks.proofs.calls.ListingsLead.{listed_on}
use Rattle.dav_memory.specs.Memory.{MemoryState}
use Rattle.dav_local.specs.declared.entry.LocalFsDirEntry.{LocalFsDirEntry}
use Rattle.dav_local.specs.declared.file.LocalFsFile.{LocalFsFile}
use Rattle.dav_local.specs.declared.gathering.LocalFsReadDir.{LocalFsReadDir}
use Rattle.dav_local.specs.declared.ways.Ways.{Ways}
use Rattle.dav_local_laws.proofs.LocalLeads.{calls_remain, local_remains}
use Rattle.dav_local_laws.specs.LocalStore.{IsLocalStore}
use Rattle.dav_upload.specs.Takes.{LeadsPlainly, ReadsPlainly}
use Rattle.dav_upload_laws.specs.Written.{finds_as_written}

module _ {S C : Type 0} (view : View S C LocalFsFile) (lists : Listings S C LocalFsReadDir LocalFsDirEntry) (writes : Writes LocalFsFile) (c : C) (ways : S → Ways) (memory : S → MemoryState) (moment : S → Moment)
    (local : IsLocalStore view lists writes ways memory moment) where
  pub local_reads : ReadsPlainly view lists c (λ s. finds_as_written (ways s))
  local_reads m n path members plain has =
      ap finds_as_written (calls_remain view lists writes ways memory moment local c m n (listed_on view lists writes c m m n path has.listed here has.was)).0 ∙ plain

  pub local_leads : LeadsPlainly view lists c (λ s. finds_as_written (ways s))
  local_leads m n plain leads = ap finds_as_written (local_remains view lists writes ways memory moment local c m n leads).0 ∙ plain
