-- The table of each method that writes, over the calls of any store, of a request whose body is in memory.
use Rattle.std.specs.Prelude.{ℕ, List}
use Rattle.dav_core.specs.declared.method.DavMethod.{DavMethod}
use Rattle.dav_core.specs.declared.method.DavMethod.TheVariants.{Copy, Delete, MkCol, Move, Put}
use Rattle.dav_core.specs.DavPath.{WebPath}
use Rattle.dav_store.specs.View.{View, Listings}
use Rattle.dav_model.specs.Conditions.{Fields}
use Rattle.dav_methods.specs.Carrying.{CopiesTo, MovesTo}
use Rattle.dav_walks.specs.Pouring.{Writes}
use Rattle.dav_methods.specs.Putting.{PutsWhole}
use Rattle.dav_methods.specs.Deleting.{Deletes}
use Rattle.dav_methods.specs.Table.{MkCalendars, MkCols, Run}

module _ {S C F L E : Type 0} (view : View S C F) (lists : Listings S C L E) (writes : Writes F) (c : C) where
  -- Destinations are read under the prefix. (Only methods that write are asked for their tables.)
  abbrev pub Changes : DavMethod → List ℕ → WebPath → Fields → List ℕ → Run S
  Changes Put prefix path fields bytes = PutsWhole view writes c path fields bytes
  Changes MkCol prefix path fields bytes = MkCols view c path fields
  Changes Delete prefix path fields bytes = Deletes view lists c path fields
  Changes Copy prefix path fields bytes = CopiesTo view lists c prefix path fields
  Changes Move prefix path fields bytes = MovesTo view lists c prefix path fields
  Changes other prefix path fields bytes = MkCalendars view c path
