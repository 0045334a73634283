-- The text is what the format writes into the empty text.
use Rattle.std.proofs.Common.{refl, ap, ◌∙◌, ◌++◌}
use Rattle.std.proofs.lemmas.Fmt.{contents_after_writes}
use Rattle.std.proofs.lemmas.Option.{IfSome_then}
use Rattle.bytes_utils.proofs.string.text.StrInner.format.Goals as goal

pub returns-in-Ok-from_built : goal.returns-in-Ok-from_built
returns-in-Ok-from_built g c = record {
  ok = IfSome_then (g.D.Display.output c.args.value) c.in_ok-write.ensures.writes
      (λ written wrote. c.in-Ok-from_built.ensures.ok ∙ c.into_inner.ensures
      ∙ contents_after_writes _ (λ text. text) (λ w l v t. t) _ written _ (wrote c.new-f.ensures.plain refl).wrote
      ∙ ap (λ text. text ++ written) (c.new-f.ensures.writer ∙ c.in-Ok.ensures.ok));
}
