-- A reader's calls keep the entries sound.
use Rattle.std.specs.Prelude.{◌≡◌, List, Some, refl}
use Rattle.std.proofs.Common.{sym, ap, subst, ◌∙◌}
use Rattle.dav_io.proofs.ToldLemmas.{told_after}
use Rattle.dav_core.specs.DavPath.{WebPath}
use Rattle.dav_core.specs.World.{SameBesidesOpens, World}
use Rattle.dav_core.proofs.UnchangedLemmas.{same_besides, same_besides_then}
use Rattle.dav_store.specs.Leads.{LeadsOn, ListedOn, LeavesWorld, begun, goes_on, lends, listed, looks, none, opens, says, unlisted}
use Rattle.dav_store.specs.View.{Listings, View}
use Rattle.dav_readcache.specs.declared.store.ReadCache.{ReadCache}
use Rattle.dav_readcache.specs.Shelf.{ShelfState}
use Rattle.dav_readcache.specs.Sound.{AreFaithful, AreFilesTold, AreSound, In, OpensTold}
use Rattle.dav_readcache.specs.Store.{SameBeside, cache_listings, cache_view}
use Rattle.dav_readcache.proofs.Sounds.{entries_sound}

module _ {S C F L E : Type 0} (view : View S C F) (lists : Listings S C L E) (c : C) where
  same_shelf : (s t : ReadCache S C) → SameBeside s t → t.shelf ≡ s.shelf
  same_shelf s t same = ap (λ (x : ReadCache S C). x.shelf) same

  listed_shelf : (s : ReadCache S C) (l : L) (t : ReadCache S C) (k : L) → ListedOn (cache_view view) (cache_listings lists) s l t k → t.shelf ≡ s.shelf
  listed_shelf s l t k begun = refl
  listed_shelf s l t k (goes_on m n i j r before on) = same_shelf m n on.1 ∙ listed_shelf s l m i before
  listed_shelf s l t k (says m n o i j e r before gives said lent keeps) = same_shelf n o lent.1 ∙ (same_shelf m n gives.1 ∙ listed_shelf s l m i before)

  module _ (trail : List World) (faithful : AreFaithful trail) (w : World) (inside : In w trail) (files : AreFilesTold view.file)
      (told : (m : S) (v : World) (path : WebPath) → (view.state m).told ≡ Some v → OpensTold view m c path v) where
    -- the told world is this one but for what is open, and the entries are sound
    record Stands (t : ReadCache S C) : Type 0 where
      world : World
      now : (view.state t.store).told ≡ Some world
      besides : SameBesidesOpens w world
      sound : AreSound trail t.shelf.entries

    stands_on : (m n : ReadCache S C) → Stands m → LeavesWorld (cache_view view) (cache_listings lists) c m n → AreSound trail n.shelf.entries → Stands n
    stands_on m n before leaves sound =
        let (v, now, same) = told_after (view.state m.store).told (view.state n.store).told SameBesidesOpens before.world leaves before.now in
        record { world = v; now = now; besides = same_besides_then w before.world v before.besides same; sound = sound }

    shelf_on : (m n : ReadCache S C) → Stands m → LeavesWorld (cache_view view) (cache_listings lists) c m n → n.shelf ≡ m.shelf → Stands n
    shelf_on m n before leaves same = stands_on m n before leaves (subst (λ (x : ShelfState). AreSound trail x.entries) (sym same) before.sound)

    opened_told : (m : ReadCache S C) (path : WebPath) → Stands m → OpensTold view m.store c path w
    opened_told m path stands = λ n file opens.
        let (f, seen, place, world) = told m.store stands.world path stands.now n file opens in
        (f, seen, place, λ x now. same_besides_then w stands.world x stands.besides (world x now))

    leads : (s : ReadCache S C) (t : ReadCache S C) → Stands s → LeadsOn (cache_view view) (cache_listings lists) c s t → Stands t
    leads s t stands none = stands
    leads s t stands (looks m n path r before call leaves) = shelf_on m n (leads s m stands before) leaves (same_shelf m n call.1)
    leads s t stands (opens m n path r before call leaves) =
        let here = leads s m stands before in
        stands_on m n here leaves (entries_sound view m c trail w path r n faithful inside files (opened_told m path here) here.sound call)
    leads s t stands (unlisted m n path e before call leaves) = shelf_on m n (leads s m stands before) leaves (same_shelf m n call.1)
    leads s t stands (listed m n path before through leaves) =
        shelf_on m n (leads s m stands before) leaves (same_shelf through.after n through.ended.1 ∙ (listed_shelf through.begin through.listing through.after through.over through.on ∙ same_shelf m through.begin through.begins.1))
    leads s t stands (lends m n before lent leaves) = shelf_on m n (leads s m stands before) leaves (same_shelf m n lent.1)

    -- After a reader's calls the entries are sound for the trail.
    pub reads_sound : (s t : ReadCache S C) → (view.state s.store).told ≡ Some w → AreSound trail s.shelf.entries → LeadsOn (cache_view view) (cache_listings lists) c s t → AreSound trail t.shelf.entries
    reads_sound s t now all led = (leads s t (record { world = w; now = now; besides = same_besides w; sound = all }) led).sound
