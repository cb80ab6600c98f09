use Rattle.pagable_value_spec.specs.Blob.{Blob}
use Rattle.std.proofs.{Common.{ap, refl, sym, ◌∙◌}, lemmas.{Bool.{Decides.Decides-eqb, and_parts}, Slice.Eq.slice_eq-Decides}}

pub returns : Rattle.pagable_file.proofs.file_blobs.is_same.Goals.returns
returns c =
    let bytes = slice_eq-Decides Decides-eqb c.args.one.now.bytes.items c.args.other.now.bytes.items _ refl in
    let keys = slice_eq-Decides Decides-eqb c.args.one.now.arcs.items c.args.other.now.arcs.items _ refl in (
      λ is. let both = and_parts _ _ (sym c.eq.ensures ∙ is) in rw (bytes.0 both.0, keys.0 both.1) refl,
      λ same. c.eq.ensures ∙ rw (bytes.1 (ap (λ (b : Blob). b.bytes) same), keys.1 (ap (λ (b : Blob). b.keys) same)) refl,
    )
