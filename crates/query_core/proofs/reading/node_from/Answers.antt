use Rattle.query_core.proofs.Ways.{ways, article_tag, value_tag, link_tag, no_tag}
use Rattle.query_core.proofs.reading.node_from.Goals as goal

pub returns-in-0 : goal.returns-in-0
returns-in-0 c = search ways

pub returns-in-1 : goal.returns-in-1
returns-in-1 c = search ways

pub returns-in-2 : goal.returns-in-2
returns-in-2 c = search ways

pub returns-in-3 : goal.returns-in-3
returns-in-3 c = search ways

pub returns-in-4 : goal.returns-in-4
returns-in-4 c = search ways

pub returns-in-5 : goal.returns-in-5
returns-in-5 c = search ways

pub returns-in-6 : goal.returns-in-6
returns-in-6 c = article_tag _ _ _ _ c.in-6.is c.article_from.ensures

pub returns-in-7 : goal.returns-in-7
returns-in-7 c = value_tag _ _ _ _ _ c.in-7.is c.slot_from.ensures c.value_from.ensures

pub returns-in-8 : goal.returns-in-8
returns-in-8 c = link_tag _ _ _ _ c.in-8.is c.link_from.ensures

pub returns-in_default : goal.returns-in_default
returns-in_default c = no_tag _ _ _ (c.in_default.in_default-own.rest.0.0.0.0.0.0.0.0.1, c.in_default.in_default-own.rest.0.0.0.0.0.0.0.1, c.in_default.in_default-own.rest.0.0.0.0.0.0.1, c.in_default.in_default-own.rest.0.0.0.0.0.1, c.in_default.in_default-own.rest.0.0.0.0.1, c.in_default.in_default-own.rest.0.0.0.1, c.in_default.in_default-own.rest.0.0.1, c.in_default.in_default-own.rest.0.1, c.in_default.in_default-own.rest.1)
