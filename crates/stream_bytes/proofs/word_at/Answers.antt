-- The part has four bytes, so that its word is given and is the one at i.
use mathlib.Core.Path.{sym, ◌∙◌}
use Rattle.std.proofs.Common.{rules}
use Rattle.stream_bytes.proofs.Words.{word_from, is_found}
use Rattle.stream_bytes.proofs.word_at.Goals as goal

pub unwrap-requires : goal.unwrap-requires
unwrap-requires c =
    let found = is_found _ _ (c.word.ensures ∙ sym (word_from c.args.s.now c.args.i c.requires)) in
    search (rules, found)

pub returns : goal.returns
returns c =
    let found = is_found _ _ (c.word.ensures ∙ sym (word_from c.args.s.now c.args.i c.requires)) in
    search (rules, found, c.unwrap.ensures)
