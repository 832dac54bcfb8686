mod BatchLemmas
mod PullLemmas
mod MessageLemmas
mod FrontLemmas
mod LeadingLemmas
mod CellLemmas
