use Rattle.edn_reader.specs.Formings.{tokens_left}
use Rattle.edn_reader.proofs.FormsOfTokens.{some_pairs, map_end}
use Rattle.edn_reader.proofs.forming.Tokens.next_key.Goals as goal

pub next-requires : goal.next-requires
next-requires c = some_pairs c.args.self.now.rest.now c.requires

pub returns-in_default : goal.returns-in_default
returns-in_default c = record {
  next =
      map_end c.next.result (tokens_left c.args.self.now)
      (tokens_left c.next.new.self) c.in_default.not-Keyword c.next.ensures.token c.requires;
  shorter = c.next.ensures.shorter;
}
