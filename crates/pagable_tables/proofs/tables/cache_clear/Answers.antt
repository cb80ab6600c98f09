use Rattle.pagable_tables.proofs.{
  OwnedByLoad.does-so,
  SameViews.same-cache,
  Views.{newer-alike, told-whole},
  Words.{None, basics, cached_at, core_alone, refl, ℕ, ◌≡◌},
}

pub returns : Rattle.pagable_tables.proofs.tables.cache_clear.Goals.returns
returns c =
    let none : (kind key : ℕ) → cached_at c.clear.new.self kind key ≡ None = λ kind key. rw c.clear.ensures.empty refl in
    does-so (λ storage. grind (basics, same-cache, none)) c.requires.steady
    (λ clears. let a = clears.leaves in record {
      whole = told-whole (core_alone (record c.args.t.now { cache = c.clear.new.self })) c.requires.core a.rows a.cells a.list
          (λ kind key n is. let f = a.cache.only kind key n is in absurd (cc)) a.loads a.workers a.last;
      newer = newer-alike a;
    }) refl refl refl
