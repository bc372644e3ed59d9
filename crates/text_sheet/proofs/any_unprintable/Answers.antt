-- The library's `any` over the bytes is `any_of`.
use mathlib.Core.Path.{◌∙◌}
use Rattle.std.proofs.Common.{rules}
use Rattle.std.proofs.lemmas.Iterator.{YieldsList-from_slice}
use Rattle.std.proofs.lemmas.Iterator.Search.{any_from_yields_List}
use Rattle.rules.specs.Tests.{outside}
use Rattle.text_sheet.proofs.Columns.{any_is}
use Rattle.text_sheet.proofs.any_unprintable.Goals as goal

pub returns : goal.returns
returns c =
    let bytes = YieldsList-from_slice c.args.name.now (search rules) in
    any_from_yields_List (outside 32 126) c.any.new.self _ c.any.result c.any.ensures.ran bytes (λ x b q k. search rules) ∙ any_is (outside 32 126) c.args.name.now
