use Rattle.std.proofs.Common.{inl, inr}
use Rattle.dav_model.specs.Due.{query}
use Rattle.dav_readcache.proofs.Leading.{reads_sound}
use Rattle.dav_local.proofs.LocalView.{local_lists, local_view}
use Rattle.dav_readcache.proofs.LocalTold.{local_opens, local_there}
use Rattle.dav_readcache.proofs.Told.{local_files_told}
use Rattle.dav_readcache_laws.proofs.BodiesSound.{given_held, given_sound, given_stands}
use Rattle.dav_readcache_laws.proofs.Joined.{shows_for}
use Rattle.dav_local_laws.proofs.LocalStore.{local_store}
use Rattle.dav_readcache_laws.proofs.RuledCache.{cache_by_rules}
use Rattle.dav_local_laws.proofs.LocalReads.{local_by_rules}
use Rattle.dav_local_laws.proofs.RuledReads.{ruled_reads}
use Rattle.dav_readcache_laws.proofs.get_over_contents.Goals as goal

pub returns-clause-right : goal.returns-clause-right
returns-clause-right g c = λ w looked opened listed told sound shows.
    c.handle_get.ensures.right looked opened listed
    (shows_for (local_view g.D.Disk.state g.D.Disk.loan g.R.Remember.state) (local_lists g.D.Disk.state g.D.Disk.loan g.R.Remember.state) c.args.fs.now tt w _ looked opened listed local_files_told
    (λ path. local_there g.D.Disk.state g.D.Disk.loan g.R.Remember.state c.args.fs.now.store w path told) sound shows)

pub returns-clause-sound : goal.returns-clause-sound
returns-clause-sound g c = λ trail w told inside faithful sound.
    reads_sound (local_view g.D.Disk.state g.D.Disk.loan g.R.Remember.state) (local_lists g.D.Disk.state g.D.Disk.loan g.R.Remember.state) tt trail faithful w inside local_files_told
    (λ m v path now. local_opens g.D.Disk.state g.D.Disk.loan g.R.Remember.state m v path now)
    c.args.fs.now c.handle_get.new.fs told sound c.handle_get.ensures.leads

pub returns-clause-reads : goal.returns-clause-reads
returns-clause-reads g c = λ reply same. elim c.handle_get.ensures.heard [
  | inl none ↦ inl none
  | inr heard ↦ inr (ruled_reads _ _ _ _ (cache_by_rules (local_view g.D.Disk.state g.D.Disk.loan g.R.Remember.state) (local_lists g.D.Disk.state g.D.Disk.loan g.R.Remember.state) _ _ (local_by_rules (local_view g.D.Disk.state g.D.Disk.loan g.R.Remember.state) (local_lists g.D.Disk.state g.D.Disk.loan g.R.Remember.state) _ _ _ _ (local_store g.D.Disk.state g.D.Disk.loan g.R.Remember.state g.met.D.Disk.world)))
      _ tt c.args.fs.now c.handle_get.result c.handle_get.new.fs c.handle_get.ensures.life reply same heard)
]

pub returns-clause-body : goal.returns-clause-body
returns-clause-body g c = λ trail w told inside faithful sound.
    given_sound (local_view g.D.Disk.state g.D.Disk.loan g.R.Remember.state) tt trail faithful w inside local_files_told (λ m v path now. local_opens g.D.Disk.state g.D.Disk.loan g.R.Remember.state m v path now)
    (query c.args.settings.now c.args.fields.now c.args.method c.args.path.now) c.args.fs.now c.handle_get.result told sound c.handle_get.ensures.opened

pub returns-clause-polls : goal.returns-clause-polls
returns-clause-polls g c = λ trail w told inside faithful sound.
    given_stands g.D.Disk.state g.met.D.Disk.tells_live trail (g.D.Disk.state c.handle_get.new.fs.store.disk) c.handle_get.result (returns-clause-body g c trail w told inside faithful sound)
    (given_held (local_view g.D.Disk.state g.D.Disk.loan g.R.Remember.state) c.args.fs.now c.handle_get.new.fs c.handle_get.result c.handle_get.ensures.life)
