pub mod FeedMessages
