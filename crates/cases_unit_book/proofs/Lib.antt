mod OneNeed
