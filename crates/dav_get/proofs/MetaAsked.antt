-- The line of the table for the metadata of an open file.
use Rattle.std.proofs.Common.{◌≡◌, Bool, Ok, Err, subst, ◌⊎◌, inl, inr}
use Rattle.dav_core.specs.declared.dav_error.DavError.TheVariants.{NoMemory}
use Rattle.dav_core.specs.Info.{Info}
use Rattle.dav_core.specs.Tree.{is_file}
use Rattle.dav_store.specs.View.{View, Says}
use Rattle.dav_model.specs.Due.{Query}
use Rattle.dav_get.specs.Table.{ByFile, CouldSay, GetsFile, Given}

module _ {S C F : Type 0} (view : View S C F) (q : Query) where
  -- The file said this, and its kind decided.
  pub meta_line : (b : Bool) (info : Info) (file g : F) (s m : S) (result : Given F) (t : S) → b ≡ is_file info.kind
      → Says view s file (Ok info) m g → CouldSay info → ByFile view b q info g m result t ⊎ (result ≡ Err NoMemory)
      → GetsFile view q file s result t ⊎ (result ≡ Err NoMemory)
  meta_line b info file g s m result t is says could (inr none) = inr none
  meta_line b info file g s m result t is says could (inl row) =
      inl (Ok info, g, m, says, could, subst (λ k. ByFile view k q info g m result t) is row)
