use Rattle.std.proofs.Common.{◌≡◌, ◌≤◌, ◌∷◌, [], ◌++◌, length, sym, ap, subst, ◌∙◌, append_assoc}
use Rattle.dav_memory.specs.Entries.{Dots}
use Rattle.dav_memory.specs.declared.key.DuKey.{DuKey}
use Rattle.dav_memory.specs.declared.key.DuEntry.{DuEntry}
use Rattle.lru.specs.LruCache.{LruCache}
use Rattle.dav_cache.proofs.DotLists.{puts-back}
use Rattle.dav_cache.proofs.du_cache.put_back.Goals as goal

pub loop-key-preserved : goal.loop-key-preserved
loop-key-preserved c =
    let us : Dots = c.pop.new.self.items in
    let es : Dots = c.loop-key.entries.entries in
    let all : Dots = c.args.pairs.items ++ c.args.entries.now.entries in
    let whole : us ++ (c.in-Some.key, c.in-Some.entry) ∷ es ≡ all =
    sym (append_assoc us ((c.in-Some.key, c.in-Some.entry) ∷ []) es) ∙ ap (λ (l : Dots). l ++ es) (sym c.in-Some.ensures.items) ∙ c.loop-key.invariant.all in
    let put = c.put_entry.ensures.ok c.if-not-put_entry.false in
    record {
      all = puts-back us c.in-Some.key c.in-Some.entry es all c.loop-key.entries.cap c.put_entry.new.entries whole c.requires.0 (subst (λ n. length all ≤ n) (sym c.loop-key.invariant.cap) c.requires.1) put;
      cap = ap (λ (k : LruCache DuKey DuEntry). k.cap) put ∙ c.loop-key.invariant.cap;
    }
