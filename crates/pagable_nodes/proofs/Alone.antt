-- What was written without references, and what is read of bytes alone.
use Rattle.pagable_core.specs.{Context.{at_front, nothing, out_of}, declared.context.writing.SerializedData.SerializedData}
use Rattle.pagable_nodes.specs.Bytes.{IsFormOf, ReadsAtStart}
use Rattle.pagable_value_spec.specs.{
  Cursor.{Answer, GivesSome, InputState, handles_at, rest_at},
  Meaning.Meaning,
  Reading.{Rest, read},
  Shape.Shape,
  Writing.{Out, WritesSome, nesting},
  declared.{error.Error.Error, numbers.ArcRef.ArcRef},
}
use Rattle.std.proofs.{Common.{List, Option, Result, length, refl, sym, ℕ, [], ◌≡◌}, lemmas.List.nil_from_length}

module _ {E : Type 0} (parts : E → ℕ → Shape) (shape : E → Shape) (env other : E) (levels : ℕ) where
  pub written_alone : (M : Meaning ArcRef → Type 0) (old new : Out) (d : SerializedData) → WritesSome M (nesting levels (parts other)) (shape other) old new
      → levels ≡ 0 → other ≡ env → old ≡ nothing
      → out_of d ≡ new → length d.arcs.items ≡ 0 → IsFormOf M (parts env) (shape env) d.bytes.items
  written_alone M old new d wrote l e o is none = record {
    out = out_of d;
    wrote = rw (sym is, l, e, o) at wrote;
    is = refl;
    bare = nil_from_length _ none;
  }

  pub read_alone : {X N : Type 0} (own : Error → Type 0) (means : X → Meaning ArcRef → Type 0) (answer : ℕ → ℕ → ℕ → Result ArcRef Error)
      (lent : ℕ → Option (ArcRef × N)) (bytes : List ℕ)
      (st : InputState N) (after : Rest Answer) (result : Result X Error) → st ≡ at_front answer lent bytes [] → levels ≡ 0 → other ≡ env
      → GivesSome own means after result (read (handles_at levels (parts other)) (shape other) (rest_at st))
      → ReadsAtStart own means (parts env) (shape env) bytes result
  read_alone own means answer lent bytes st after result s l e gives = record { after = after; gives = rw (s, l, e) at gives }
