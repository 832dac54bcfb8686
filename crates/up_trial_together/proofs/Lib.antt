mod CallerLemmas
mod Names
