-- In every run each call of a local store that changes what stands is at a place where a loose walk of its path may end.
use Rattle.std.proofs.Common.{◌≡◌, ◌≤◌, ◌||◌, inr, true, false, List, Result, Ok, Err, refl, sym, ap, subst, ◌∙◌, arith}
use Rattle.dav_io.specs.declared.clock.Moment.{Moment}
use Rattle.dav_io.specs.Told.{Both}
use Rattle.dav_io.proofs.ToldLemmas.{both_same, both_then}
use Rattle.dav_core.specs.declared.error.FsError.{FsError}
use Rattle.dav_core.specs.declared.handle.DiskError.{DiskError}
use Rattle.dav_core.specs.declared.tree.Row.{Row}
use Rattle.dav_core.specs.Allowed.{Allowed, copying, making_dir, taking_dir, taking_file}
use Rattle.dav_core.specs.DavPath.{WebPath}
use Rattle.dav_core.specs.Disk.{DiskState, IsCounted, OpenedOver, Opens, kind_opened}
use Rattle.dav_core.specs.Path.{Names}
use Rattle.dav_core.specs.Tree.{is_linked}
use Rattle.dav_core.specs.World.{SameBesidesOpens, World}
use Rattle.dav_core.specs.Writing.{Copies, Does, DoesIn, MayRefuseMake, MayRefuseTakeDir, MayRefuseTakeFile}
use Rattle.dav_core.proofs.UnchangedLemmas.{same_besides, same_besides_then}
use Rattle.dav_store.specs.Files.{Spoiled}
use Rattle.dav_store.specs.View.{Listings, View}
use Rattle.dav_model.specs.declared.settings.Settings.{Settings}
use Rattle.dav_model.specs.Finding.{has_slash, is_forbidden, resolved}
use Rattle.dav_model.specs.Plans.{put_options}
use Rattle.dav_model.specs.Rules.{Rules, nothing_known}
use Rattle.dav_model.proofs.LooseWalks.{exactly_may}
use Rattle.dav_walks.specs.Follows.{Calls, MovesBy, OpensBy, Reached, Told, UnlessShut}
use Rattle.dav_walks.specs.Pouring.{Writes}
use Rattle.dav_memory.specs.Memory.{MemoryState}
use Rattle.dav_local.specs.declared.entry.LocalFsDirEntry.{LocalFsDirEntry}
use Rattle.dav_local.specs.declared.file.LocalFsFile.{LocalFsFile}
use Rattle.dav_local.specs.declared.gathering.LocalFsReadDir.{LocalFsReadDir}
use Rattle.dav_local.specs.declared.ways.Ways.{Ways}
use Rattle.dav_local.specs.Calls.{AfterMove, Asks, Finds, MovesAt, Place}
use Rattle.dav_local.specs.Files.{done_by, filed}
use Rattle.dav_local.specs.Resolving.{Leads}
use Rattle.dav_local.specs.Ways.{rules_of, rules_with}
use Rattle.dav_local.proofs.ByRules.{spoiled_by}
use Rattle.dav_local_laws.proofs.CallsBefore.{AllowsNumbered, calls_before, copying_numbered, copying_same, making_numbered, taking_dir_numbered, taking_file_numbered}
use Rattle.dav_local_laws.proofs.CallsDone.{calls_from, opened_as}
use Rattle.dav_local_laws.proofs.LocalCalls.{LedToBoth, calls_spoiled, found_both, led_to, unless_told}
use Rattle.dav_local_laws.proofs.LocalLeads.{calls_remain}
use Rattle.dav_local_laws.proofs.LocalMoves.{moved_by, moves_before, moves_spoiled}
use Rattle.dav_local_laws.specs.LocalStore.{IsLocalStore, place}
use Rattle.dav_local_laws.specs.Loosely.{AtSome, FollowsLoosely, finding_at}

-- What holds of each place holds at some: where the rules find the path.
at_any : (rules : Rules) (v : World) (path : WebPath) (P : Names → Type 0) → ((there : Names) → P there) → AtSome rules v path P
at_any rules v path P all = record {
  there = resolved rules v.tree path.names;
  loosely = (exactly_may rules nothing_known v.tree).looks path.names;
  so = λ clear. all (resolved rules v.tree path.names);
}

module _ {S C : Type 0} (view : View S C LocalFsFile) (lists : Listings S C LocalFsReadDir LocalFsDirEntry) (writes : Writes LocalFsFile) (c : C) (ways : S → Ways) (memory : S → MemoryState) (moment : S → Moment)
    (local : IsLocalStore view lists writes ways memory moment) (settings : Settings) where
  abbrev at : S → Place
  at s = place view lists writes ways memory moment s

  abbrev rules : S → Rules
  rules m = rules_with settings (ways m)

  -- What holds at the place where a path was found holds where a loose walk of it ends.
  at_led : (m : S) (v u : World) (path : WebPath) (there : Names) (P : Names → Type 0) → Leads (ways m) v.tree path.names there → SameBesidesOpens v u
      → (is_linked u.tree there ≡ false → P there) → AtSome (rules m) v path P
  at_led m v u path there P leads same done = record {
    there = leads.end;
    loosely = leads.loosely;
    so = λ free.
        let here : there ≡ leads.end = leads.here free in
        subst P here (done (ap (λ (tree : List Row). is_linked tree there) same.tree ∙ (ap (is_linked v.tree) here ∙ free)));
  }

  -- ---- one path

  abbrev At : (List Row → Names → Allowed) → S → WebPath → Result Unit FsError → S → World → World → Type 0
  At allowed m path r n v w = AtSome (rules m) v path (λ there. Calls view lists writes c (allowed v.tree there) m r n v w)

  abbrev DoesAt : (DiskError → Type 0) → (List Row → Names → Allowed) → Names → DiskState → Result Unit DiskError → DiskState → Type 0
  DoesAt may allowed there s answer t = Does may (λ v w. is_linked v.tree there ≡ false → DoesIn false (allowed v.tree there) answer v w) s answer t

  called_at : (may : DiskError → Type 0) (allowed : List Row → Names → Allowed) → ((tree : List Row) (there : Names) → AllowsNumbered tree (allowed tree there)) → (m n : S) (path : WebPath) (r : Result Unit FsError)
      → Finds (at m) path.names (λ there. Asks (DoesAt may allowed there) done_by) r (at n) → Told view lists writes c m n (At allowed m path r n)
  called_at may allowed numbered m n path r (Err e, q, resolves, (is, ends)) =
      both_then (view.state m).told q.disk.told (view.state n).told SameBesidesOpens SameBesidesOpens (At allowed m path r n)
      (λ v u w first second. at_any (rules m) v path (λ there. Calls view lists writes c (allowed v.tree there) m r n v w)
      (λ there. calls_spoiled view lists writes c ways memory moment local settings m n (allowed v.tree there) e r (view.state m) q.disk v w (omega arith) resolves.refused is (ap (λ (x : Place). x.disk) ends) (same_besides_then v u w first second)))
      resolves.keeps.world (both_same q.disk.told (view.state n).told SameBesidesOpens same_besides (ap (λ (x : Place). x.disk.told) ends))
  called_at may allowed numbered m n path r (Ok there, q, resolves, (answer, t, does, is, ends)) =
      let same : t ≡ view.state n = sym (ap (λ (x : Place). x.disk) ends) in
      both_then (view.state m).told q.disk.told (view.state n).told _ (λ u w. is_linked u.tree there ≡ false → DoesIn false (allowed u.tree there) answer u w) (At allowed m path r n)
      (λ v u w p done. at_led m v u path there (λ there. Calls view lists writes c (allowed v.tree there) m r n v w) p.0 p.1
      (λ clear. subst (λ z. Calls view lists writes c (allowed v.tree there) m z n v w) (sym is)
      (subst (λ (tree : List Row). Calls view lists writes c (allowed tree there) m (done_by answer) n v w) p.1.tree
      (calls_before view lists writes c (allowed u.tree there) m n (done_by answer) v u w (numbered u.tree there) p.1
      (calls_from view lists writes c false (allowed u.tree there) answer m n q.disk u w (done clear) resolves.keeps.counts (subst (λ (x : DiskState). IsCounted answer q.disk x) same does.asks.counted))))))
      (led_to view lists writes c ways memory moment local settings (at m) q path.names there resolves)
      (subst (λ (x : DiskState). Both q.disk.told x.told (λ u w. is_linked u.tree there ≡ false → DoesIn false (allowed u.tree there) answer u w)) same does.told)

  make_loosely : (m n : S) (path : WebPath) (r : Result Unit FsError) → view.makes_dir m c path r n
      → Told view lists writes c m n (λ v w. UnlessShut view lists writes c (is_forbidden (rules m) path) r v w (At making_dir m path r n v w))
  make_loosely m n path r h =
      unless_told view lists writes c ways memory moment local settings (is_forbidden (rules_of (ways m)) path) m n _ r (At making_dir m path r n) (local.makes_dir m n c path r h).0
      (λ finds. called_at MayRefuseMake making_dir making_numbered m n path r finds)

  take_dir_loosely : (m n : S) (path : WebPath) (r : Result Unit FsError) → view.removes_dir m c path r n → Told view lists writes c m n (At taking_dir m path r n)
  take_dir_loosely m n path r h = called_at MayRefuseTakeDir taking_dir taking_dir_numbered m n path r (local.removes_dir m n c path r h).0

  take_file_loosely : (m n : S) (path : WebPath) (r : Result Unit FsError) → view.removes_file m c path r n
      → Told view lists writes c m n (λ v w. UnlessShut view lists writes c (is_forbidden (rules m) path || has_slash (rules m).alone path) r v w (At taking_file m path r n v w))
  take_file_loosely m n path r h =
      unless_told view lists writes c ways memory moment local settings (is_forbidden (rules_of (ways m)) path || has_slash (ways m).alone path) m n _ r (At taking_file m path r n) (local.removes_file m n c path r h).0
      (λ finds. called_at MayRefuseTakeFile taking_file taking_file_numbered m n path r finds)

  -- ---- two paths

  abbrev Between : (World → Names → Names → Type 0) → S → WebPath → WebPath → World → Type 0
  Between P m from to v = AtSome (rules m) v from (λ one. AtSome (rules m) v to (λ other. P v one other))

  between_any : (P : World → Names → Names → Type 0) (m : S) (from to : WebPath) (v : World) → ((one other : Names) → P v one other) → Between P m from to v
  between_any P m from to v all = at_any (rules m) v from (λ one. AtSome (rules m) v to (λ other. P v one other)) (λ one. at_any (rules m) v to (λ other. P v one other) (λ other. all one other))

  between_led : (P : World → Names → Names → Type 0) (m : S) (from to : WebPath) (one other : Names) (v u : World) → LedToBoth view lists writes c ways memory moment local settings m from to one other v u
      → (is_linked u.tree one ≡ false → is_linked u.tree other ≡ false → P v one other) → Between P m from to v
  between_led P m from to one other v u led done =
      at_led m v u from one (λ one. AtSome (rules m) v to (λ other. P v one other)) led.first led.same
      (λ clear. at_led m v u to other (λ other. P v one other) led.second led.same (λ open_to. done clear open_to))

  abbrev Copied : S → Result Unit FsError → S → World → World → Names → Names → Type 0
  Copied m r n w v one other = Calls view lists writes c (copying v one other) m r n v w

  copied_at : (m n : S) (from to : WebPath) (r : Result Unit FsError) (one other : Names) (q : Place) → Both (view.state m).told q.disk.told (LedToBoth view lists writes c ways memory moment local settings m from to one other)
      → (view.state m).faults ≤ q.disk.faults → Asks (λ s answer t. Copies s one other answer t) done_by q r (at n) → Told view lists writes c m n (λ v w. Between (Copied m r n w) m from to v)
  copied_at m n from to r one other q led le (answer, t, does, is, ends) =
      let same : t ≡ view.state n = sym (ap (λ (x : Place). x.disk) ends) in
      both_then (view.state m).told q.disk.told (view.state n).told (LedToBoth view lists writes c ways memory moment local settings m from to one other)
      (λ u w. is_linked u.tree one ≡ false → is_linked u.tree other ≡ false → DoesIn true (copying u one other) answer u w) (λ v w. Between (Copied m r n w) m from to v)
      (λ v u w p done. between_led (Copied m r n w) m from to one other v u p
      (λ clear open_to. subst (λ z. Calls view lists writes c (copying v one other) m z n v w) (sym is)
      (subst (λ a. Calls view lists writes c a m (done_by answer) n v w) (copying_same v u one other p.same)
      (calls_before view lists writes c (copying u one other) m n (done_by answer) v u w (copying_numbered u one other) p.same
      (calls_from view lists writes c true (copying u one other) answer m n q.disk u w (done clear open_to) le (subst (λ (x : DiskState). IsCounted answer q.disk x) same does.asks.counted))))))
      led
      (subst (λ (x : DiskState). Both q.disk.told x.told (λ u w. is_linked u.tree one ≡ false → is_linked u.tree other ≡ false → DoesIn true (copying u one other) answer u w)) same does.told)

  copy_loosely : (m n : S) (from to : WebPath) (r : Result Unit FsError) → view.copies m c from to r n
      → Told view lists writes c m n (λ v w. UnlessShut view lists writes c (is_forbidden (rules m) from || is_forbidden (rules m) to) r v w (Between (Copied m r n w) m from to v))
  copy_loosely m n from to r h =
      unless_told view lists writes c ways memory moment local settings (is_forbidden (rules_of (ways m)) from || is_forbidden (rules_of (ways m)) to) m n _ r (λ v w. Between (Copied m r n w) m from to v)
      (local.copies m n c from to r h).0
      (found_both view lists writes c ways memory moment local settings m n from to r (λ one other. Asks (λ s answer t. Copies s one other answer t) done_by) (λ v w. Between (Copied m r n w) m from to v)
      (λ e k q v w le spoiled is ends same. between_any (Copied m r n w) m from to v
      (λ one other. calls_spoiled view lists writes c ways memory moment local settings m n (copying v one other) e r k q v w le spoiled is ends same))
      (λ one other q led le asks. copied_at m n from to r one other q led le asks))

  abbrev Moved : S → Result Unit FsError → S → World → World → Names → Names → Type 0
  Moved m r n w v one other = MovesBy view lists writes c one other m r n v w

  moved_at : (m n : S) (from to : WebPath) (r : Result Unit FsError) (one other : Names) (q : Place) → Both (view.state m).told q.disk.told (LedToBoth view lists writes c ways memory moment local settings m from to one other)
      → (view.state m).faults ≤ q.disk.faults → MovesAt one other q r (at n) → Told view lists writes c m n (λ v w. Between (Moved m r n w) m from to v)
  moved_at m n from to r one other q led le (answer, k, renames, t, after, ends) =
      let same : view.state n ≡ t = ap (λ (x : Place). x.disk) ends in
      both_then (view.state m).told q.disk.told (view.state n).told (LedToBoth view lists writes c ways memory moment local settings m from to one other)
      (λ u w. is_linked u.tree one ≡ false → is_linked u.tree other ≡ false → MovesBy view lists writes c one other m r n u w)
      (λ v w. Between (Moved m r n w) m from to v)
      (λ v u w p moved. between_led (Moved m r n w) m from to one other v u p
      (λ clear open_to. moves_before view lists writes c ways memory moment local settings one other m n r v u w p.same (moved clear open_to)))
      led
      (moved_by view lists writes c ways memory moment local settings m n q.disk le r one other answer k renames (subst (AfterMove answer one other k r) (sym same) after))

  move_loosely : (m n : S) (from to : WebPath) (r : Result Unit FsError) → view.renames m c from to r n
      → Told view lists writes c m n (λ v w. UnlessShut view lists writes c (is_forbidden (rules m) from || is_forbidden (rules m) to) r v w (Between (Moved m r n w) m from to v))
  move_loosely m n from to r h =
      unless_told view lists writes c ways memory moment local settings (is_forbidden (rules_of (ways m)) from || is_forbidden (rules_of (ways m)) to) m n _ r (λ v w. Between (Moved m r n w) m from to v)
      (local.renames m n c from to r h).0
      (found_both view lists writes c ways memory moment local settings m n from to r MovesAt (λ v w. Between (Moved m r n w) m from to v)
      (λ e k q v w le spoiled is ends same. between_any (Moved m r n w) m from to v
      (λ one other. moves_spoiled view lists writes c ways memory moment local settings one other m n e r k q v w le spoiled is ends same))
      (λ one other q led le moves. moved_at m n from to r one other q led le moves))

  -- ---- opening

  abbrev OpensAt : S → WebPath → Result LocalFsFile FsError → S → World → World → Type 0
  OpensAt m path r n v w = AtSome (rules m) v path (λ there. OpensBy view lists writes c (finding_at there (rules m)) path m r n v w)

  opens_lost : (m n : S) (path : WebPath) (there : Names) (e : FsError) (r : Result LocalFsFile FsError) (q : DiskState) (v w : World) → Spoiled {T = Names} (view.state m) (Err e) q → r ≡ Err e → view.state n ≡ q
      → SameBesidesOpens v w → OpensBy view lists writes c (finding_at there (rules m)) path m r n v w
  opens_lost m n path there e r q v w spoiled is ends same =
      subst (λ z. OpensBy view lists writes c (finding_at there (rules m)) path m z n v w) (sym is)
      (same, inr (subst (λ d. Spoiled {T = LocalFsFile} (view.state m) (Err e) d) (sym ends) (spoiled_by {U = LocalFsFile} (view.state m) (view.state m) q e (Err e) (omega arith) refl spoiled)))

  opened_at : (m n : S) (path : WebPath) (r : Result LocalFsFile FsError) → Finds (at m) path.names (λ there. Asks (λ s answer t. Opens s there put_options answer t) filed) r (at n)
      → Told view lists writes c m n (OpensAt m path r n)
  opened_at m n path r (Err e, q, resolves, (is, ends)) =
      both_then (view.state m).told q.disk.told (view.state n).told SameBesidesOpens SameBesidesOpens (OpensAt m path r n)
      (λ v u w first second. at_any (rules m) v path (λ there. OpensBy view lists writes c (finding_at there (rules m)) path m r n v w)
      (λ there. opens_lost m n path there e r q.disk v w resolves.refused is (ap (λ (x : Place). x.disk) ends) (same_besides_then v u w first second)))
      resolves.keeps.world (both_same q.disk.told (view.state n).told SameBesidesOpens same_besides (ap (λ (x : Place). x.disk.told) ends))
  opened_at m n path r (Ok there, q, resolves, (answer, t, opens, is, ends)) =
      let same : view.state n ≡ t = ap (λ (x : Place). x.disk) ends in
      let opens_so : Opens q.disk there put_options answer (view.state n) = subst (λ x. Opens q.disk there put_options answer x) (sym same) opens in
      both_then (view.state m).told q.disk.told (view.state n).told _ (OpenedOver there put_options answer (kind_opened answer (view.state n))) (OpensAt m path r n)
      (λ v u w p over. at_led m v u path there (λ there. OpensBy view lists writes c (finding_at there (rules m)) path m r n v w) p.0 p.1
      (λ clear. subst (λ z. OpensBy view lists writes c (finding_at there (rules m)) path m z n v w) (sym is)
      (opened_as view lists writes c (λ f. record { handle = f }) (λ f. local.handle (record { handle = f })) (finding_at there (rules m)) path there answer m n q.disk v u w refl p.1 over resolves.keeps.counts
      opens_so.asks.counted clear)))
      (led_to view lists writes c ways memory moment local settings (at m) q path.names there resolves) opens_so.told

  open_loosely : (m n : S) (path : WebPath) (r : Result LocalFsFile FsError) → view.opens m c path put_options r n
      → Told view lists writes c m n (λ v w. UnlessShut view lists writes c (is_forbidden (rules m) path || has_slash (rules m).alone path) r v w (OpensAt m path r n v w))
  open_loosely m n path r h =
      unless_told view lists writes c ways memory moment local settings (is_forbidden (rules_of (ways m)) path || has_slash (ways m).alone path) m n _ r (OpensAt m path r n) (local.opens m n c path put_options r h).0
      (λ finds. opened_at m n path r finds)

  -- ---- from any state on

  pub follows_loosely : (s : S) → FollowsLoosely view lists writes c (rules s) s
  follows_loosely s = record {
    makes_dir = λ m n path r reached h. subst (λ (x : Rules). Told view lists writes c m n (λ v w. UnlessShut view lists writes c (is_forbidden x path) r v w
        (AtSome x v path (λ there. Calls view lists writes c (making_dir v.tree there) m r n v w)))) (same m reached) (make_loosely m n path r h);
    removes_dir = λ m n path r reached h. subst (λ (x : Rules). Told view lists writes c m n (λ v w. AtSome x v path (λ there. Calls view lists writes c (taking_dir v.tree there) m r n v w)))
        (same m reached) (take_dir_loosely m n path r h);
    removes_file = λ m n path r reached h. subst (λ (x : Rules). Told view lists writes c m n (λ v w. UnlessShut view lists writes c (is_forbidden x path || has_slash x.alone path) r v w
        (AtSome x v path (λ there. Calls view lists writes c (taking_file v.tree there) m r n v w)))) (same m reached) (take_file_loosely m n path r h);
    renames = λ m n from to r reached h. subst (λ (x : Rules). Told view lists writes c m n (λ v w. UnlessShut view lists writes c (is_forbidden x from || is_forbidden x to) r v w
        (AtSome x v from (λ one. AtSome x v to (λ other. Moved m r n w v one other))))) (same m reached) (move_loosely m n from to r h);
    copies = λ m n from to r reached h. subst (λ (x : Rules). Told view lists writes c m n (λ v w. UnlessShut view lists writes c (is_forbidden x from || is_forbidden x to) r v w
        (AtSome x v from (λ one. AtSome x v to (λ other. Copied m r n w v one other))))) (same m reached) (copy_loosely m n from to r h);
    opens = λ m n path r reached h. subst (λ (x : Rules). Told view lists writes c m n (λ v w. UnlessShut view lists writes c (is_forbidden x path || has_slash x.alone path) r v w
        (AtSome x v path (λ there. OpensBy view lists writes c (finding_at there x) path m r n v w)))) (same m reached) (open_loosely m n path r h);
  }
    where
      same : (m : S) → Reached view lists writes c s m → rules m ≡ rules s
      same m reached = ap (rules_with settings) (calls_remain view lists writes ways memory moment local c s m reached).0
