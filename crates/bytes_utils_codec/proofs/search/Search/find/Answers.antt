use Rattle.bytes_utils_codec.proofs.search.Search.find.Goals as goal

pub returns-then-is_none-clause-found : goal.returns-then-is_none-clause-found
returns-then-is_none-clause-found g c = rw (← c.self.view_is) c.find_prepared-found.ensures
