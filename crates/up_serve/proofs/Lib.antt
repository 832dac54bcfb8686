mod WordLemmas
mod ReadLemmas
mod DifferentLemmas
mod EnrolLemmas
mod TellLemmas
mod OpenLemmas
mod ServeLemmas
mod MoveLemmas
