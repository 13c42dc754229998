use Rattle.std.proofs.Common.{◌+◌, arith, sym, subst}
use Rattle.dav_memory.specs.Entries.{Dots, without, some_put, same_key, Listed}
use Rattle.dav_memory.specs.declared.key.DuKey.{DuKey}
use Rattle.dav_cache.specs.Listings.{AreKept}
use Rattle.dav_cache.proofs.DotLists.{at_dir}
use Rattle.dav_cache.proofs.Listings.{kept-all, kept-short}
use Rattle.dav_cache.proofs.du_cache.DuCache.seal_within.Goals as goal

pub invariant_of-self : goal.invariant_of-self
invariant_of-self c =
    let l : Listed = record { dir = c.args.dir.now.dir; time = c.args.time; moment = c.args.now; number = c.self.inside.next } in
    let es : Dots = c.self.inside.entries.entries in
    let size = c.self.inside.entries.cap in
    let n = c.put_listing-made.result in
    rw (c.drop_key.ensures, c.put_listing-made.ensures.puts)
    (subst (λ (k : DuKey). AreKept (c.self.inside.next + 1) (without (same_key k) (some_put size l c.args.names.now n es))) (sym (at_dir c.args.dir.now c.requires.dir))
    (kept-short size l c.args.names.now n es c.if-made-names.true c.requires.names c.self.invariant))

pub invariant_of-self-else-made-names : goal.invariant_of-self-else-made-names
invariant_of-self-else-made-names c =
    let l : Listed = record { dir = c.args.dir.now.dir; time = c.args.time; moment = c.args.now; number = c.self.inside.next } in
    let es : Dots = c.self.inside.entries.entries in
    let size = c.self.inside.entries.cap in
    let n = c.put_listing-made.result in
    rw c.put_listing-made.ensures.puts (kept-all size l c.args.names.now n es (omega arith) c.requires.names c.self.invariant)
